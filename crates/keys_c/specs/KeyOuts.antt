-- The result of a scan byte or a key as C gets it. The numbers of the kinds are those of libvt/include/vt.h.
use Rattle.std.specs.Prelude.{ℕ, ◌++◌, [], List, length, drop}
use Rattle.key_machine.specs.declared.key_out.KeyOut.{KeyOut}
use Rattle.key_machine.specs.declared.key_out.KeyOut.TheVariants.{Attention, Bytes, Last, Next, Nothing, Prev, Spawn, Switch}
use Rattle.keys_c.specs.declared.vt_key.VtKey.{VtKey}

-- the bytes stand in the first places; the other places stay unchanged
abbrev pub key_with : ℕ → ℕ → List ℕ → VtKey → VtKey
key_with kind number bytes old = record {
  kind = kind;
  spare = 0;
  length = length bytes;
  number = number;
  bytes = bytes ++ drop (length bytes) old.bytes;
}

abbrev pub vt_key_of : KeyOut → VtKey → VtKey
vt_key_of Nothing old = key_with 0 0 [] old
vt_key_of (Bytes bytes) old = key_with 1 0 bytes old
vt_key_of (Switch n) old = key_with 2 n [] old
vt_key_of Last old = key_with 3 0 [] old
vt_key_of Next old = key_with 4 0 [] old
vt_key_of Prev old = key_with 5 0 [] old
vt_key_of Spawn old = key_with 6 0 [] old
vt_key_of Attention old = key_with 7 0 [] old
