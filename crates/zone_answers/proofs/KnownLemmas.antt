-- The names within the origin of two zones that are known.
use Rattle.std.proofs.Common.{◌≡◌, List, [], ◌∷◌, ◌++◌, Bool, true, false, cond, Some, None, Result, Ok, Err, IfOk, refl, sym, ap, subst, ◌∙◌, append_assoc, inl, inr}
use Rattle.std.specs.List.{flat_map}
use Rattle.dns_names.specs.Labels.{IsWithin, is_within, parent_of}
use Rattle.dns_names.proofs.NameLemmas.{is_within-Decides}
use Rattle.dns_data.specs.declared.record.Record.{Record}
use Rattle.dns_data.specs.declared.rdata.Data.{Data}
use Rattle.dns_data.specs.declared.rdata.Data.TheVariants as variants
use Rattle.zone_core.proofs.MetLemmas.{Among, among_of, of_among, among_append}
use Rattle.zone_core.proofs.BelowLemmas.{within_itself, within_within}
use Rattle.zone_answers.specs.Answers.{Name}
use Rattle.zone_answers.specs.AnswerChanges.{IsKnown}
use Rattle.zone_answers.specs.ChangeTests.{up_to, target_in, known_by}
use Rattle.zone_answers.proofs.CutLemmas.{within_root, within_or_is, one_more}
use Rattle.zone_answers.proofs.LawLemmas.{among_flat}

-- ---- what is gathered

-- nothing of a name outside
pub up_to_none : (origin name : Name) → is_within name origin ≡ false → up_to origin name ≡ []
up_to_none origin [] e = ap (λ b. cond b ([] ∷ []) []) e
up_to_none origin (label ∷ labels) e = ap (λ b. cond b ((label ∷ labels) ∷ up_to origin labels) []) e

-- a name within, and then those of its parent
pub up_to_more : (origin name above : Name) (names : List Name) → is_within name origin ≡ true → parent_of name ≡ Some above → (names ++ name ∷ []) ++ up_to origin above ≡ names ++ up_to origin name
up_to_more origin [] above names e f = absurd cc
up_to_more origin (label ∷ labels) above names e f =
    let same : labels ≡ above = cc in
    append_assoc names ((label ∷ labels) ∷ []) (up_to origin above)
    ∙ ap (λ (a : Name). names ++ (label ∷ labels) ∷ up_to origin a) (sym same)
    ∙ ap (λ (l : List Name). names ++ l) (sym (ap (λ b. cond b ((label ∷ labels) ∷ up_to origin labels) []) e))

pub up_to_last : (origin name : Name) (names : List Name) → is_within name origin ≡ true → parent_of name ≡ None → names ++ name ∷ [] ≡ names ++ up_to origin name
up_to_last origin [] names e f = ap (λ (l : List Name). names ++ l) (sym (ap (λ b. cond b ([] ∷ []) []) e))
up_to_last origin (label ∷ labels) names e f = absurd cc

-- ---- names

up_to_is : (origin name n : Name) → Among n (up_to origin name) → IsWithin name n × IsWithin n origin
up_to_is origin [] n a = by_test (is_within [] origin) refl a
  where
    by_test : (b : Bool) → is_within [] origin ≡ b → Among n (cond b ([] ∷ []) []) → IsWithin [] n × IsWithin n origin
    by_test false e m = absurd m
    by_test true e m = (elim m [
      | inl same ↦ (subst (IsWithin []) (sym same) (within_itself []), subst (λ (x : Name). IsWithin x origin) (sym same) ((is_within-Decides [] origin).0 e))
      | inr none ↦ absurd none
    ])
up_to_is origin (label ∷ labels) n a = by_test (is_within (label ∷ labels) origin) refl a (up_to_is origin labels n)
  where
    by_test : (b : Bool) → is_within (label ∷ labels) origin ≡ b → Among n (cond b ((label ∷ labels) ∷ up_to origin labels) [])
        → (Among n (up_to origin labels) → IsWithin labels n × IsWithin n origin) → IsWithin (label ∷ labels) n × IsWithin n origin
    by_test false e m later = absurd m
    by_test true e m later = (elim m [
      | inl same ↦ (
        subst (IsWithin (label ∷ labels)) (sym same) (within_itself (label ∷ labels)),
        subst (λ (x : Name). IsWithin x origin) (sym same) ((is_within-Decides (label ∷ labels) origin).0 e),
      )
      | inr rest ↦ (let found = later rest in (one_more label labels n found.0, found.1))
    ])

is_up_to : (origin name n : Name) → IsWithin name n → IsWithin n origin → Among n (up_to origin name)
is_up_to origin name n below inside = by_name name below ((is_within-Decides name origin).1 (within_within name n origin below inside))
  where
    by_name : (name : Name) → IsWithin name n → is_within name origin ≡ true → Among n (up_to origin name)
    by_name [] below e =
        let is : n ≡ [] = within_root n below in
        subst (λ (l : List Name). Among n l) (sym (ap (λ b. cond b ([] ∷ []) []) e)) (inl is)
    by_name (label ∷ labels) below e =
        subst (λ (l : List Name). Among n l) (sym (ap (λ b. cond b ((label ∷ labels) ∷ up_to origin labels) []) e))
        (elim (within_or_is label labels n below) [
          | inl same ↦ inl same
          | inr above ↦ inr (by_name labels above ((is_within-Decides labels origin).1 (within_within labels n origin above inside)))
        ])

target_is : (origin : Name) (d : Data) (n : Name) → Among n (target_in origin d) → (d ≡ variants.Cname n) × IsWithin n origin
target_is origin (variants.Cname target) n a = by_test (is_within target origin) refl a
  where
    by_test : (b : Bool) → is_within target origin ≡ b → Among n (cond b (target ∷ []) []) → (variants.Cname target ≡ variants.Cname n) × IsWithin n origin
    by_test false e m = absurd m
    by_test true e m = (elim m [
      | inl same ↦ (ap variants.Cname (sym same), subst (λ (x : Name). IsWithin x origin) (sym same) ((is_within-Decides target origin).0 e))
      | inr none ↦ absurd none
    ])
target_is origin d n a = absurd a

is_target : (origin : Name) (d : Data) (n : Name) → d ≡ variants.Cname n → IsWithin n origin → Among n (target_in origin d)
is_target origin d n e inside =
    let here : target_in origin (variants.Cname n) ≡ n ∷ [] = ap (λ b. cond b (n ∷ []) []) ((is_within-Decides n origin).1 inside) in
    subst (λ (l : List Name). Among n l) (sym (ap (target_in origin) e ∙ here)) (inl refl)

pub flat_among : {X Y : Type 0} (f : X → List Y) (xs : List X) (x : X) (y : Y) → Among x xs → Among y (f x) → Among y (flat_map f xs)
flat_among f [] x y a b = absurd a
flat_among f (z ∷ xs) x y a b = (among_append (f z) (flat_map f xs) y).1 (elim a [
  | inl same ↦ inl (subst (λ w. Among y (f w)) same b)
  | inr later ↦ inr (flat_among f xs x y later b)
])

module _ (origin : Name) (rs : List Record) (n : Name) where
  pub known_is : Among n (flat_map (known_by origin) rs) → IsWithin n origin × IsKnown rs n
  known_is a =
      let by = among_flat (known_by origin) rs n a in
      let here = of_among rs by.0 by.1 in
      (elim ((among_append (up_to origin by.0.owner) (target_in origin by.0.rdata) n).0 by.2) [
        | inl up ↦ (let found = up_to_is origin by.0.owner n up in (found.1, inl (by.0, here, found.0)))
        | inr target ↦ (let found = target_is origin by.0.rdata n target in (found.1, inr (by.0, here, found.0)))
      ])

  pub is_known : IsWithin n origin → IsKnown rs n → Among n (flat_map (known_by origin) rs)
  is_known inside known = (elim known [
    | inl there ↦ flat_among (known_by origin) rs there.0 n (among_of rs there.0 there.1)
        ((among_append (up_to origin there.0.owner) (target_in origin there.0.rdata) n).1 (inl (is_up_to origin there.0.owner n there.2 inside)))
    | inr leads ↦ flat_among (known_by origin) rs leads.0 n (among_of rs leads.0 leads.1)
        ((among_append (up_to origin leads.0.owner) (target_in origin leads.0.rdata) n).1 (inr (is_target origin leads.0.rdata n leads.2 inside)))
  ])

-- ---- results

pub if_same : {X E A : Type 0} (r : Result X E) (a b c : A) → IfOk r (λ _. a ≡ b) → b ≡ c → IfOk r (λ _. a ≡ c)
if_same (Ok x) a b c e f = e ∙ f
if_same (Err x) a b c e f = e
