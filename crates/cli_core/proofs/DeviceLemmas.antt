-- What goes through a device in pieces.
use Rattle.std.proofs.Common.{◌≡◌, ℕ, List, [], ◌++◌, ◌<◌, length, take, drop, Option, Some, None, refl, sym, ap, ◌∙◌, subst, arith, append-nil, length-append}
use lib.Seq.{take-append_seam}
use Rattle.std.specs.Io.KnownBytes.{Consumes, IsAtEnd}
use Rattle.std.proofs.KnownBytes.{Consumes-trans}
use Rattle.cli_core.specs.Device.{IsAll}

-- ---- reading

-- a buffer that was filled whole
pub refilled : (filled old now : List ℕ) (size : ℕ) → now ≡ take size (filled ++ drop (length filled) old) → length filled ≡ size → now ≡ filled
refilled filled old now size is same =
    is ∙ ap (λ k. take k (filled ++ drop (length filled) old)) (sym same) ∙ take-append_seam filled (drop (length filled) old)

pub read_more : (a b c : Option (List ℕ)) (input next buffer now : List ℕ) (n : ℕ) → Consumes a b input → Consumes b c (take n buffer) → next ≡ input ++ take n now → now ≡ buffer → Consumes a c next
read_more a b c input next buffer now n read more is same =
    subst (Consumes a c) (sym (is ∙ ap (λ xs. input ++ take n xs) same)) (Consumes-trans a b c input (take n buffer) read more)

-- nothing came, and nothing is left
pub all_read : (a b c : Option (List ℕ)) (input buffer : List ℕ) (n : ℕ) → Consumes a b input → n ≡ 0 → Consumes b c (take n buffer) → IsAtEnd c → IsAll a input
all_read None b c input buffer n read none last end = tt
all_read (Some x) None c input buffer n read none last end = absurd read
all_read (Some x) (Some y) None input buffer n read none last end = absurd last
all_read (Some x) (Some y) (Some z) input buffer n read none last end =
    let left : y ≡ [] = last ∙ ap (λ k. take k buffer ++ z) none ∙ end in
    sym (read ∙ ap (λ (xs : List ℕ). input ++ xs) left ∙ append-nil input)

-- what was read is not all, so all is longer
pub more_left : (a b : Option (List ℕ)) (input : List ℕ) (most : ℕ) → Consumes a b input → most < length input → (all : List ℕ) × IsAll a all × (most < length all)
more_left None b input most read long = (input, tt, long)
more_left (Some x) None input most read long = absurd read
more_left (Some x) (Some y) input most read long = (x, refl, omega (arith, long, ap length read, length-append input y))
