-- Texts that are sent one after the other.
use Rattle.std.proofs.Common.{◌≡◌, ◌<◌, ℕ, ◌+◌, List, [], ◌∷◌, ◌++◌, length, take, drop, get_or, Bor, Option, sym, ap, subst, ◌∙◌, append-nil, append_assoc, take-append-drop}
use Rattle.std.specs.List.{flat_map}
use Rattle.std.proofs.lemmas.Grind.{flat_map-append}
use Rattle.std.proofs.lemmas.List.{take_more}
use Rattle.std.specs.Io.KnownBytes.{Appends}
use Rattle.cli_core.specs.Device.{AppendsFront}
use Rattle.cli_core.proofs.SendLemmas.{sent_front}
use Rattle.cli_core.proofs.JobLemmas.{front_behind}

abbrev all_of : List (Bor (List ℕ)) → List ℕ
all_of texts = flat_map (λ text. text.now) texts

-- the texts up to one, that one, and the rest
all_split : (texts : List (Bor (List ℕ))) (i : ℕ) (d : Bor (List ℕ)) → i < length texts
    → all_of texts ≡ all_of (take i texts) ++ ((get_or texts i d).now ++ all_of (drop (i + 1) texts))
all_split texts i d within =
    let x = get_or texts i d in
    ap all_of (sym (take-append-drop (i + 1) texts)) ∙ flat_map-append (λ (text : Bor (List ℕ)). text.now) (take (i + 1) texts) (drop (i + 1) texts)
    ∙ ap (λ (l : List (Bor (List ℕ))). all_of l ++ all_of (drop (i + 1) texts)) (take_more texts i d within)
    ∙ ap (λ (l : List ℕ). l ++ all_of (drop (i + 1) texts)) (flat_map-append (λ (text : Bor (List ℕ)). text.now) (take i texts) (x ∷ []) ∙ ap (λ (l : List ℕ). all_of (take i texts) ++ l) (append-nil x.now))
    ∙ append_assoc (all_of (take i texts)) x.now (all_of (drop (i + 1) texts))

-- one of them was sent in part
pub sent_part : (texts : List (Bor (List ℕ))) (i : ℕ) (d : Bor (List ℕ)) (old mid new : Option (List ℕ)) → i < length texts → Appends old mid (all_of (take i texts))
    → AppendsFront mid new (get_or texts i d).now → AppendsFront old new (all_of texts)
sent_part texts i d old mid new within whole front =
    let x = get_or texts i d in
    let rest = all_of (drop (i + 1) texts) in
    subst (AppendsFront old new) (sym (all_split texts i d within)) (front_behind old mid new (all_of (take i texts)) (x.now ++ rest) whole (sent_front mid new x.now rest front))
