-- In K_RAW bytes and no bytes have the same result.
use Rattle.std.proofs.Common.{◌≡◌, ℕ, List, [], ◌∷◌, refl}
use Rattle.key_machine.specs.Bytes.{out_of}
use Rattle.key_machine.specs.declared.key_out.KeyOut.TheVariants.{Bytes}
use Rattle.keys_c.specs.Scanning.{raw_out}

pub raw_sent : (b : ℕ) (bytes : List ℕ) → raw_out b (out_of bytes) ≡ Bytes (b ∷ [])
raw_sent b [] = refl
raw_sent b (c ∷ bytes) = refl

pub ruleset raw_outs = (raw_sent)
