-- What goes through a writer in pieces.
use Rattle.std.proofs.Common.{◌≡◌, ℕ, List, [], ◌∷◌, ◌++◌, ◌<◌, length, take, drop, Option, Result, Ok, Err, refl, sym, ap, ◌∙◌, subst, arith, append_assoc, append-nil, length-append, take-append-drop}
use lib.Seq.{take-append_seam}
use Rattle.std.specs.Io.KnownBytes.{Appends, Keeps}
use Rattle.std.proofs.KnownBytes.{Appends-nil, Appends-trans, Appends-kept}
use Rattle.dns_master.specs.declared.master_fault.MasterFault.{MasterFault}
use Rattle.dns_master.specs.declared.master_fault.MasterFault.TheVariants.{ParenOpen, ParenClose, QuoteOpen, NoOwner, NoTtl, ClassNotIn, DirectiveNotKept, BadTtl, Data, TooLarge, EntryShort, WriteFailed, NoMemory}
use Rattle.dns_master.specs.Written.{IsProperPrefix}
use Rattle.dns_master.specs.Device.{AppendsFront, TextWritten}

-- a prefix of the text went out, and this is left of it
abbrev pub IsLeft : Option (List ℕ) → Option (List ℕ) → List ℕ → List ℕ → Type 0
IsLeft old new text rest = (front : List ℕ) × (text ≡ front ++ rest) × Appends old new front

pub left_whole : (a : Option (List ℕ)) (text : List ℕ) → IsLeft a a text text
left_whole a text = ([], refl, Appends-nil a)

pub left_less : (a b c : Option (List ℕ)) (text rest : List ℕ) (n : ℕ) → IsLeft a b text rest → Appends b c (take n rest) → IsLeft a c text (drop n rest)
left_less a b c text rest n left more =
    (left.0 ++ take n rest, left.1 ∙ ap (λ (xs : List ℕ). left.0 ++ xs) (sym (take-append-drop n rest)) ∙ sym (append_assoc left.0 (take n rest) (drop n rest)), Appends-trans a b c left.0 (take n rest) left.2 more)

pub left_none : (a b : Option (List ℕ)) (text rest : List ℕ) → IsLeft a b text rest → length rest ≡ 0 → Appends a b text
left_none a b text [] left none = subst (Appends a b) (sym (left.1 ∙ append-nil left.0)) left.2
left_none a b text (x ∷ rest) left none = absurd (omega (arith, none))

front_went : (a b : Option (List ℕ)) (text front rest : List ℕ) → text ≡ front ++ rest → Appends a b front → AppendsFront a b text
front_went a b text front rest e went =
    let here : take (length front) text ≡ front = ap (take (length front)) e ∙ take-append_seam front rest in
    (length front, omega (arith, ap length e, length-append front rest), subst (Appends a b) (sym here) went)

pub left_front : (a b c : Option (List ℕ)) (text rest : List ℕ) → IsLeft a b text rest → Keeps b c → AppendsFront a c text
left_front a b c text rest left kept = front_went a c text left.0 rest left.1 (Appends-kept a b c left.0 left.2 kept)

-- the same where something is left
pub left_part : (a b c : Option (List ℕ)) (text rest : List ℕ) → IsLeft a b text rest → 0 < length rest → Keeps b c → (part : List ℕ) × IsProperPrefix part text × Appends a c part
left_part a b c text rest left some kept = (left.0, record { tail = rest; is = left.1; some = some }, Appends-kept a b c left.0 left.2 kept)

pub part_front : (a b : Option (List ℕ)) (text : List ℕ) → ((part : List ℕ) × IsProperPrefix part text × Appends a b part) → AppendsFront a b text
part_front a b text went = front_went a b text went.0 went.1.tail went.1.is went.2

-- ---- a text that is gathered

-- one more line is gathered
pub left_more : (a b : Option (List ℕ)) (text rest line now : List ℕ) → now ≡ rest ++ line → IsLeft a b text rest → IsLeft a b (text ++ line) now
left_more a b text rest line now e left =
    (left.0, ap (λ (xs : List ℕ). xs ++ line) left.1 ∙ append_assoc left.0 rest line ∙ ap (λ (xs : List ℕ). left.0 ++ xs) (sym e), left.2)

-- and some of it goes out
pub left_drained : (a b c : Option (List ℕ)) (text rest front now : List ℕ) → rest ≡ front ++ now → Appends b c front → IsLeft a b text rest → IsLeft a c text now
left_drained a b c text rest front now e went left =
    (left.0 ++ front, left.1 ∙ ap (λ (xs : List ℕ). left.0 ++ xs) e ∙ sym (append_assoc left.0 front now), Appends-trans a b c left.0 front left.2 went)

-- all of it
pub left_all : (a b c : Option (List ℕ)) (text rest : List ℕ) → IsLeft a b text rest → Appends b c rest → Appends a c text
left_all a b c text rest left went = subst (Appends a c) (sym left.1) (Appends-trans a b c left.0 rest left.2 went)

-- or a prefix of it, where more would have followed
pub left_cut : (a b c : Option (List ℕ)) (all text rest behind : List ℕ) → all ≡ text ++ behind → IsLeft a b text rest → AppendsFront b c rest → AppendsFront a c all
left_cut a b c all text rest behind e left cut =
    let n = cut.0 in
    let parts : all ≡ (left.0 ++ take n rest) ++ (drop n rest ++ behind) =
    e ∙ ap (λ (xs : List ℕ). xs ++ behind) (left.1 ∙ ap (λ (xs : List ℕ). left.0 ++ xs) (sym (take-append-drop n rest)) ∙ sym (append_assoc left.0 (take n rest) (drop n rest)))
    ∙ append_assoc (left.0 ++ take n rest) (drop n rest) behind in
    front_went a c all (left.0 ++ take n rest) (drop n rest ++ behind) parts (Appends-trans a b c left.0 (take n rest) left.2 cut.2)

-- nothing more goes out
pub none_went : (a : Option (List ℕ)) (text : List ℕ) → AppendsFront a a text
none_went a text = front_went a a text [] text refl (Appends-nil a)

-- ---- what a call answered of what is left

pub cut_written : (a b c : Option (List ℕ)) (all text rest behind : List ℕ) (e : MasterFault) (m n k : ℕ) → all ≡ text ++ behind → IsLeft a b text rest → n ≡ m → TextWritten b c rest (Err e) n k → TextWritten a c all (Err e) m k
cut_written a b c all text rest behind WriteFailed m n k whole left same w = (left_cut a b c all text rest behind whole left w.0, omega (arith, same, w.1))
cut_written a b c all text rest behind NoMemory m n k whole left same w = (left_cut a b c all text rest behind whole left w.0, w.1 ∙ same)
cut_written a b c all text rest behind (ParenOpen line) m n k whole left same w = w
cut_written a b c all text rest behind (ParenClose line) m n k whole left same w = w
cut_written a b c all text rest behind (QuoteOpen line) m n k whole left same w = w
cut_written a b c all text rest behind (NoOwner line) m n k whole left same w = w
cut_written a b c all text rest behind (NoTtl line) m n k whole left same w = w
cut_written a b c all text rest behind (ClassNotIn line) m n k whole left same w = w
cut_written a b c all text rest behind (DirectiveNotKept line) m n k whole left same w = w
cut_written a b c all text rest behind (BadTtl line) m n k whole left same w = w
cut_written a b c all text rest behind (Data line fault) m n k whole left same w = w
cut_written a b c all text rest behind TooLarge m n k whole left same w = w
cut_written a b c all text rest behind (EntryShort line) m n k whole left same w = w

pub rest_written : (a b c : Option (List ℕ)) (text rest : List ℕ) (r : Result (Unit {0}) MasterFault) (m n k : ℕ) → IsLeft a b text rest → n ≡ m → TextWritten b c rest r n k → TextWritten a c text r m k
rest_written a b c text rest (Ok done) m n k left same w = (left_all a b c text rest left w.0, w.1 ∙ same)
rest_written a b c text rest (Err e) m n k left same w = cut_written a b c text text rest [] e m n k (sym (append-nil text)) left same w
