-- The numbers of errors and their texts: Linux's, errno(3).
use Rattle.std.specs.Prelude.{ℕ, List, codes}
use Rattle.vt_base.specs.declared.errno.Errno.{Errno}
use Rattle.vt_base.specs.declared.errno.Errno.TheVariants as errno

abbrev pub number_of : Errno → ℕ
number_of errno.Srch = 3
number_of errno.Intr = 4
number_of errno.Nxio = 6
number_of errno.Badf = 9
number_of errno.Again = 11
number_of errno.Busy = 16
number_of errno.Inval = 22
number_of errno.Notty = 25
number_of errno.Perm = 1

abbrev pub text_of : Errno → List ℕ
text_of errno.Srch = codes "No such process"
text_of errno.Intr = codes "Interrupted system call"
text_of errno.Nxio = codes "No such device or address"
text_of errno.Badf = codes "Bad file descriptor"
text_of errno.Again = codes "Resource temporarily unavailable"
text_of errno.Busy = codes "Device or resource busy"
text_of errno.Inval = codes "Invalid argument"
text_of errno.Notty = codes "Inappropriate ioctl for device"
text_of errno.Perm = codes "Operation not permitted"
