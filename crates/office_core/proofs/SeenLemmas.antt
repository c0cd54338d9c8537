-- What a caller sees of changes that are read in pieces is what it sees of them all.
use Rattle.std.proofs.Common.{◌≡◌, ℕ, zero, suc, ◌+◌, ◌-◌, ◌<◌, ◌≤◌, List, [], ◌∷◌, ◌++◌, length, take, drop, Bool, false, cond, Option, Some, refl, sym, ap, subst, ◌∙◌, arith, append-nil, map, take-add, drop-drop, length-drop, length-take, take_all}
use Rattle.std.specs.List.{AllByRecursion}
use Rattle.std.proofs.lemmas.Grind.{flat_map-append}
use Rattle.std.proofs.lemmas.List.{length-map}
use Rattle.dns_data.specs.declared.record.Record.{Record}
use Rattle.dns_data.specs.Rdata.{type_of}
use Rattle.grant_policy.specs.declared.action.Action.{Action}
use Rattle.grant_policy.specs.declared.action.Action.TheVariants as action
use Rattle.grant_policy.specs.declared.rule.Rule.{Rule}
use Rattle.grant_policy.specs.Decisions.{decision, is_granted}
use Rattle.grant_policy.specs.Grants.{GrantsOf, includes}
use Rattle.zone_core.specs.declared.change.Change.{Change}
use Rattle.zone_core.specs.Changes.{ChangeOf, change_in}
use Rattle.office_model.specs.Replies.{seen_in}
use Rattle.office_model.specs.States.{Held}
use Rattle.office_model.specs.Tables.{AreHidden, IsHidden}
use Rattle.office_core.specs.declared.changes.Seen.{Seen}
use Rattle.office_core.specs.Machine.{if_some, listed, may_list, seen, seen_of}
use Rattle.office_core.specs.Seen.{IsNext, IsSeenUpTo, IsSeenWhole}

all_left : {X : Type 0} (P : X → Type 0) (xs ys : List X) → AllByRecursion P (xs ++ ys) → AllByRecursion P xs
all_left P [] ys all = tt
all_left P (x ∷ xs) ys all = (all.0, all_left P xs ys all.1)

all_right : {X : Type 0} (P : X → Type 0) (xs ys : List X) → AllByRecursion P (xs ++ ys) → AllByRecursion P ys
all_right P [] ys all = all
all_right P (x ∷ xs) ys all = all_right P xs ys all.1

-- as many as there are of the first ones
take_few : {X : Type 0} (most : ℕ) (xs : List X) → take (length (take most xs)) xs ≡ take most xs
take_few zero [] = refl
take_few zero (x ∷ xs) = refl
take_few (suc most) [] = refl
take_few (suc most) (x ∷ xs) = ap (λ (l : List _). x ∷ l) (take_few most xs)

module _ (g : GrantsOf) (lists : g.action ≡ action.List) where
  abbrev rules : List Rule
  rules = g.rules

  abbrev caller : List ℕ
  caller = g.caller

  pub as_listed : (r : Record) → may_list rules caller r ≡ includes g r.owner (type_of r.rdata)
  as_listed r = ap (λ (a : Action). is_granted (decision (record { caller = caller; name = r.owner; record_type = type_of r.rdata; action = a }) rules)) (sym lists)

  none_listed : (rs : List Record) → AllByRecursion (λ r. includes g r.owner (type_of r.rdata) ≡ false) rs → listed rules caller rs ≡ []
  none_listed [] all = refl
  none_listed (r ∷ rs) all = ap (λ (b : Bool). cond b (r ∷ listed rules caller rs) (listed rules caller rs)) (as_listed r ∙ all.0) ∙ none_listed rs all.1

  none_of_it : (c : ChangeOf) → IsHidden g c → if_some (seen_of rules caller c) ≡ []
  none_of_it c hidden =
      let P = λ (r : Record). includes g r.owner (type_of r.rdata) ≡ false in
      let removed = none_listed c.removed (all_left P c.removed c.added hidden) in
      let added = none_listed c.added (all_right P c.removed c.added hidden) in
      λ i. if_some (record { removed = removed i; added = added i })

  none_seen : (cs : List ChangeOf) → AllByRecursion (IsHidden g) cs → seen rules caller cs ≡ []
  none_seen [] hidden = refl
  none_seen (c ∷ cs) hidden = ap (λ (l : List ChangeOf). l ++ seen rules caller cs) (none_of_it c hidden.0) ∙ none_seen cs hidden.1

  pub seen_both : (cs : List ChangeOf) (n m : ℕ) → seen rules caller (take (n + m) cs) ≡ seen rules caller (take n cs) ++ seen rules caller (take m (drop n cs))
  seen_both cs n m = ap (λ (l : List ChangeOf). seen rules caller l) (take-add n m cs) ∙ flat_map-append (λ (c : ChangeOf). if_some (seen_of rules caller c)) (take n cs) (take m (drop n cs))

  -- of the changes so many were looked at, so many more are hidden, and of those after at most so many are a piece
  module _ (cs piece sees : List ChangeOf) (k n most : ℕ) (up : k ≤ length cs) (so_far : sees ≡ seen rules caller (take k cs)) (hidden : AreHidden g (drop k cs) n) (is : piece ≡ take most (drop (k + n) cs)) where
    past : k + n ≤ length cs
    past = omega (arith, up, hidden.there, length-drop k cs)

    many : length piece ≡ length (take most (drop (k + n) cs))
    many = ap (λ (l : List ChangeOf). length l) is

    next_there : k + n + length piece ≤ length cs
    next_there = omega (arith, past, many, length-take most (drop (k + n) cs), length-drop (k + n) cs)

    still : seen rules caller (take (k + n) cs) ≡ sees
    still =
        seen_both cs k n
        ∙ (λ i. sym so_far i ++ none_seen (take n (drop k cs)) hidden.hidden i)
        ∙ append-nil sees

    next_sees : sees ++ seen rules caller piece ≡ seen rules caller (take (k + n + length piece) cs)
    next_sees =
        sym
        (seen_both cs (k + n) (length piece)
        ∙ ap (λ (l : List ChangeOf). l ++ seen rules caller (take (length piece) (drop (k + n) cs))) still
        ∙ ap (λ (l : List ChangeOf). sees ++ seen rules caller l) (ap (λ (m : ℕ). take m (drop (k + n) cs)) many ∙ take_few most (drop (k + n) cs) ∙ sym is))

    next_last : length piece < most → k + n + length piece ≡ length cs
    next_last few = omega (arith, past, few, many, length-take most (drop (k + n) cs), length-drop (k + n) cs)

  -- the next piece of the changes of a zone
  module _ (zone : Held) (old new : Seen) (n most : ℕ) (piece : List Change) (hidden : AreHidden g (drop old.read zone.changes) n) (is : map change_in piece ≡ take most (drop (old.read + n) zone.changes)) (read : new.read ≡ old.read + n + length piece)
      (sees : map seen_in new.changes.items ≡ map seen_in old.changes.items ++ seen rules caller (map change_in piece)) where
    module _ (count : ℕ) (up : IsSeenUpTo g count zone.changes old) where
      abbrev rest : List ChangeOf
      rest = drop count zone.changes

      abbrev k : ℕ
      k = old.read - count

      at : count + k ≡ old.read
      at = omega (arith, up.from)

      up_to : k ≤ length rest
      up_to = omega (arith, up.from, up.there)

      those : drop old.read zone.changes ≡ drop k rest
      those = ap (λ (m : ℕ). drop m zone.changes) (sym at) ∙ sym (drop-drop k count zone.changes)

      behind : drop (old.read + n) zone.changes ≡ drop (k + n) rest
      behind = ap (λ (m : ℕ). drop m zone.changes) (let e : old.read + n ≡ count + (k + n) = omega (arith, at) in e) ∙ sym (drop-drop (k + n) count zone.changes)

      hides : AreHidden g (drop k rest) n
      hides = subst (λ (l : List ChangeOf). AreHidden g l n) those hidden

      cut : map change_in piece ≡ take most (drop (k + n) rest)
      cut = is ∙ ap (take most) behind

      as_many : length (map change_in piece) ≡ length piece
      as_many = length-map piece change_in

      there : k + n + length piece ≤ length rest
      there = omega (arith, as_many, next_there rest (map change_in piece) (map seen_in old.changes.items) k n most up_to up.sees hides cut)

      here : new.read - count ≡ k + n + length piece
      here = omega (arith, read, at)

      told : map seen_in new.changes.items ≡ seen rules caller (take (k + n + length piece) rest)
      told = sees ∙ next_sees rest (map change_in piece) (map seen_in old.changes.items) k n most up_to up.sees hides cut ∙ ap (λ (m : ℕ). seen rules caller (take (k + n + m) rest)) as_many

      next_up : IsSeenUpTo g count zone.changes new
      next_up = record {
        from = omega (arith, read, up.from);
        there = omega (arith, read, at, there);
        sees = told ∙ ap (λ (m : ℕ). seen rules caller (take m rest)) (sym here);
      }

      next_whole : length piece < most → IsSeenWhole g count zone.changes new
      next_whole few =
          let all = next_last rest (map change_in piece) (map seen_in old.changes.items) k n most up_to up.sees hides cut (omega (arith, as_many, few)) in
          record {
            read = omega (arith, read, at, as_many, all);
            sees = told ∙ ap (λ (l : List ChangeOf). seen rules caller l) (take_all (k + n + length piece) rest (omega (arith, as_many, all)));
          }

    pub next : (held : Option Held) (more : Bool) → held ≡ Some zone → (more ≡ false → length piece < most) → IsNext g held old new (Some more)
    next held more is_held few = (zone, is_held, λ count up. (next_up count up, λ last. next_whole count up (few last)))

  -- nothing was read yet
  pub none_yet : (count : ℕ) (cs : List ChangeOf) (s : Seen) → s.read ≡ count → s.changes.items ≡ [] → IsSeenUpTo g count cs s
  none_yet count cs s read none = record {
    from = omega (arith, read);
    there = omega (arith, read);
    sees = ap (map seen_in) none ∙ ap (λ (m : ℕ). seen rules caller (take m (drop count cs))) (let e : 0 ≡ s.read - count = omega (arith, read) in e);
  }
