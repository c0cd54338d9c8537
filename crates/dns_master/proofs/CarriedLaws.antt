-- What is carried from entry to entry is what the greatest earlier entry says.
use Rattle.std.proofs.Common.{◌≡◌, ℕ, zero, suc, ◌<◌, ◌≤◌, inr, List, [], ◌∷◌, length, Option, Some, None, refl, sym, ap, subst, ◌∙◌, arith}
use Rattle.std.specs.Prelude.{option_and_then}
use Rattle.std.specs.List.{slice_get}
use Rattle.dns_master.specs.declared.statement.Statement.{Statement}
use Rattle.dns_master.specs.Greatest.{LastSaid, LastOr}
use Rattle.dns_master.specs.InForce.{origin_said, owner_said, default_said, ttl_said, minimum_said, InForce, at_entry, AreInForce, or_else, origin_or, behind_entry, handed_in}
use Rattle.dns_master.proofs.GreatestLaws.{last_none, last_more, or_more, last_once, or_once}

-- what is in force before each entry, carried from one to the next
abbrev pub carried : InForce → List Statement → ℕ → InForce
carried b ss zero = b
carried b [] (suc k) = b
carried b (s ∷ ss) (suc k) = carried (behind_entry s b) ss k

-- an entry that is there takes a step
carried_next : (b : InForce) (ss : List Statement) (k : ℕ) (s : Statement) → slice_get ss k ≡ Some s → carried b ss (suc k) ≡ behind_entry s (carried b ss k)
carried_next b [] k s h = absurd cc
carried_next b (x ∷ ss) zero s h = let same : x ≡ s = cc in ap (λ (v : Statement). behind_entry v b) same
carried_next b (x ∷ ss) (suc k) s h = carried_next (behind_entry x b) ss k s h

some_at : (ss : List Statement) (k : ℕ) → k < length ss → (s : Statement) × (slice_get ss k ≡ Some s)
some_at [] k h = absurd (omega arith)
some_at (x ∷ ss) zero h = (x, refl)
some_at (x ∷ ss) (suc k) h = some_at ss k (omega arith)

module _ (ss : List Statement) (handed : List (List ℕ)) where
  -- a part that each entry sets or leaves
  module _ {A : Type 0} (part : InForce → Option A) (said : Statement → Option A) (kept : (s : Statement) (b : InForce) → part (behind_entry s b) ≡ or_else (said s) (part b)) (none : part (handed_in handed) ≡ None) where
    remembers : (k : ℕ) → k ≤ length ss → LastSaid (at_entry ss said) k (part (carried (handed_in handed) ss k))
    remembers zero h = subst (LastSaid (at_entry ss said) 0) (sym none) (last_none (at_entry ss said))
    remembers (suc k) h =
        let b = carried (handed_in handed) ss k in
        let x = some_at ss k (omega arith) in
        let here : at_entry ss said k ≡ said x.0 = ap (option_and_then said) x.1 in
        let next : part (carried (handed_in handed) ss (suc k)) ≡ or_else (said x.0) (part b) = ap part (carried_next (handed_in handed) ss k x.0 x.1) ∙ kept x.0 b in
        subst (LastSaid (at_entry ss said) (suc k)) (sym next) (last_more (at_entry ss said) k (said x.0) (part b) here (remembers k (omega arith)))

  origin_some : (x : Option (List (List ℕ))) (o y : List (List ℕ)) → x ≡ Some y → origin_or x o ≡ y
  origin_some (Some z) o y e = cc
  origin_some None o y e = absurd cc

  origin_none : (x : Option (List (List ℕ))) (o : List (List ℕ)) → x ≡ None → origin_or x o ≡ o
  origin_none None o e = refl
  origin_none (Some z) o e = absurd cc

  origins_carried : (k : ℕ) → k ≤ length ss → LastOr (at_entry ss origin_said) k handed (carried (handed_in handed) ss k).origin
  origins_carried zero h = inr (λ i p. absurd (omega arith), refl)
  origins_carried (suc k) h =
      let b = carried (handed_in handed) ss k in
      let x = some_at ss k (omega arith) in
      let here : at_entry ss origin_said k ≡ origin_said x.0 = ap (option_and_then origin_said) x.1 in
      let next : (carried (handed_in handed) ss (suc k)).origin ≡ origin_or (origin_said x.0) b.origin = ap (λ (f : InForce). f.origin) (carried_next (handed_in handed) ss k x.0 x.1) in
      or_more (at_entry ss origin_said) k (origin_said x.0) handed b.origin (carried (handed_in handed) ss (suc k)).origin here
      (λ y e. next ∙ origin_some (origin_said x.0) b.origin y e)
      (λ e. next ∙ origin_none (origin_said x.0) b.origin e)
      (origins_carried k (omega arith))

  pub carried_in_force : AreInForce ss handed (carried (handed_in handed) ss)
  carried_in_force = record {
    origins = origins_carried;
    owners = remembers (λ f. f.owner) owner_said (λ s b. refl) refl;
    default_ttls = remembers (λ f. f.default_ttl) default_said (λ s b. refl) refl;
    stated_ttls = remembers (λ f. f.stated_ttl) ttl_said (λ s b. refl) refl;
    minimums = remembers (λ f. f.minimum) minimum_said (λ s b. refl) refl;
  }

  -- ---- and nothing else is in force

  same_parts : (x y : InForce) → x.origin ≡ y.origin → x.owner ≡ y.owner → x.default_ttl ≡ y.default_ttl → x.stated_ttl ≡ y.stated_ttl → x.minimum ≡ y.minimum → x ≡ y
  same_parts x y o p q r s =
      ap (λ (v : List (List ℕ)). record { origin = v; owner = x.owner; default_ttl = x.default_ttl; stated_ttl = x.stated_ttl; minimum = x.minimum }) o
      ∙ ap (λ (v : Option (List (List ℕ))). record { origin = y.origin; owner = v; default_ttl = x.default_ttl; stated_ttl = x.stated_ttl; minimum = x.minimum }) p
      ∙ ap (λ (v : Option ℕ). record { origin = y.origin; owner = y.owner; default_ttl = v; stated_ttl = x.stated_ttl; minimum = x.minimum }) q
      ∙ ap (λ (v : Option ℕ). record { origin = y.origin; owner = y.owner; default_ttl = y.default_ttl; stated_ttl = v; minimum = x.minimum }) r
      ∙ ap (λ (v : Option ℕ). record { origin = y.origin; owner = y.owner; default_ttl = y.default_ttl; stated_ttl = y.stated_ttl; minimum = v }) s

  pub one_in_force : (f g : ℕ → InForce) → AreInForce ss handed f → AreInForce ss handed g → (k : ℕ) → k ≤ length ss → f k ≡ g k
  one_in_force f g a b k h =
      same_parts (f k) (g k)
      (or_once (at_entry ss origin_said) (at_entry ss origin_said) k (λ i q. refl) handed _ _ (a.origins k h) (b.origins k h))
      (last_once (at_entry ss owner_said) (at_entry ss owner_said) k (λ i q. refl) _ _ (a.owners k h) (b.owners k h))
      (last_once (at_entry ss default_said) (at_entry ss default_said) k (λ i q. refl) _ _ (a.default_ttls k h) (b.default_ttls k h))
      (last_once (at_entry ss ttl_said) (at_entry ss ttl_said) k (λ i q. refl) _ _ (a.stated_ttls k h) (b.stated_ttls k h))
      (last_once (at_entry ss minimum_said) (at_entry ss minimum_said) k (λ i q. refl) _ _ (a.minimums k h) (b.minimums k h))
