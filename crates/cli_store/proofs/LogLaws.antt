-- The changes and the receipts that are printed are those that are asked for.
use Rattle.std.proofs.Common.{◌≡◌, ◌↔◌, ◌⊎◌, ℕ, zero, suc, ◌+◌, ◌≤◌, Bool, true, false, cond, ◌&&◌, ◌||◌, List, [], ◌∷◌, nat_le, Option, Some, None, is_some, is_none, IfSome, bytes_eq, slice_get, refl, sym, ap, ◌∙◌, inl, inr, arith, add-zero}
use Rattle.std.specs.Prelude.{IsSome, IsNone}
use Rattle.std.specs.Bool.{Decides}
use Rattle.std.specs.List.{Contains, filter}
use Rattle.std.proofs.lemmas.Bool.{leb-true, le-leb}
use Rattle.std.proofs.lemmas.Bool.Decides.{Decides-and, Decides-or}
use Rattle.std.proofs.lemmas.Slice.Eq.{bytes_eq-Decides}
use Rattle.dns_names.specs.Labels.{is_within}
use Rattle.dns_names.specs.Order.{same_name}
use Rattle.dns_names.proofs.NameLemmas.{is_within-Decides, same_name-Decides}
use Rattle.zone_core.specs.Changes.{ChangeOf}
use Rattle.zone_core.proofs.MetLemmas.{Among, among_of, of_among, any_is, is_any}
use Rattle.office_model.specs.Replies.{NumberedOf}
use Rattle.office_core.specs.Machine.{numbered}
use Rattle.store_rows.specs.declared.ordered.KeptReceipt.{KeptReceipt}
use Rattle.cli_store.specs.declared.log_choice.LogAsked.{LogAsked}
use Rattle.cli_store.specs.Log.{passes, some_within, change_names, update_names, asks_changes, asks_receipts, asks_change, asks_receipt, SomeWithin, ChangesAreAsked, ReceiptsAreAsked, AllChangesAreAsked}

-- ---- what a filter keeps

-- the first, if it passes, and what is kept of the others
kept_first : {X : Type 0} (p : X → Bool) (y : X) (kept others : List X) (x : X) (b : Bool) → p y ≡ b → (Among x kept → Among x others × (p x ≡ true)) → Among x (cond b (y ∷ kept) kept) → Among x (y ∷ others) × (p x ≡ true)
kept_first {X} p y kept others x true e rest (inl same) = (inl same, ap p same ∙ e)
kept_first {X} p y kept others x true e rest (inr later) = let found = rest later in (inr found.0, found.1)
kept_first {X} p y kept others x false e rest later = let found = rest later in (inr found.0, found.1)

kept_is : {X : Type 0} (p : X → Bool) (xs : List X) (x : X) → Among x (filter p xs) → Among x xs × (p x ≡ true)
kept_is p [] x among = absurd among
kept_is p (y ∷ ys) x among = kept_first p y (filter p ys) ys x (p y) refl (kept_is p ys x) among

first_kept : {X : Type 0} (p : X → Bool) (y : X) (kept others : List X) (x : X) (b : Bool) → p y ≡ b → p x ≡ true → (Among x others → Among x kept) → Among x (y ∷ others) → Among x (cond b (y ∷ kept) kept)
first_kept {X} p y kept others x true t e rest (inl same) = inl same
first_kept {X} p y kept others x true t e rest (inr later) = inr (rest later)
first_kept {X} p y kept others x false f e rest (inl same) = absurd (let bad : true ≡ false = sym e ∙ ap p same ∙ f in cc)
first_kept {X} p y kept others x false f e rest (inr later) = rest later

is_kept : {X : Type 0} (p : X → Bool) (xs : List X) (x : X) → Among x xs → p x ≡ true → Among x (filter p xs)
is_kept p [] x among e = absurd among
is_kept p (y ∷ ys) x among e = first_kept p y (filter p ys) ys x (p y) refl e (λ later. is_kept p ys x later e) among

-- a list that is kept where something is wanted, and what passes a test of it
kept_if : {X : Type 0} (b : Bool) (p : X → Bool) (xs : List X) (x : X) → Contains (cond b (filter p xs) []) x ↔ ((b ≡ true) × Contains xs x × (p x ≡ true))
kept_if true p xs x = (
  λ found. let kept = kept_is p xs x (among_of (filter p xs) x found) in (refl, of_among xs x kept.0, kept.1),
  λ has. of_among (filter p xs) x (is_kept p xs x (among_of xs x has.1) has.2),
)
kept_if false p xs x = (λ found. absurd (omega (arith, found.1)), λ has. absurd (let bad : false ≡ true = has.0 in cc))

-- all, where each passes
pub all_kept : {X : Type 0} (xs : List X) → filter (λ x. true) xs ≡ xs
all_kept [] = refl
all_kept {X} (x ∷ xs) = ap (λ (l : List X). x ∷ l) (all_kept xs)

-- ---- what is asked

passes-Decides : {X : Type 0} (test : X → Bool) (P : X → Type 0) → ((x : X) → Decides (test x) (P x)) → (o : Option X) → Decides (passes test o) (IfSome o P)
passes-Decides test P each None = (λ t. tt, λ u. refl)
passes-Decides test P each (Some x) = each x

within-Decides : (names : List (List (List ℕ))) (top : List (List ℕ)) → Decides (some_within names top) (SomeWithin names top)
within-Decides names top = (
  λ t. let found = any_is (λ name. is_within name top) names t in (found.0, of_among names found.0 found.1, (is_within-Decides found.0 top).0 found.2),
  λ w. is_any (λ name. is_within name top) names w.0 (among_of names w.0 w.1) ((is_within-Decides w.0 top).1 w.2),
)

none-Decides : {X : Type 0} (o : Option X) → Decides (is_none o) (IsNone o)
none-Decides None = (λ t. refl, λ e. refl)
none-Decides (Some x) = (λ t. absurd (let bad : false ≡ true = t in cc), λ e. absurd (let bad : true ≡ false = e in cc))

wanted-Decides : {X Y : Type 0} (o : Option X) (n : Option Y) → Decides (is_some o || is_none n) (IsSome o ⊎ IsNone n)
wanted-Decides o n = Decides-or (is_some o) (is_none n) (λ t. t, λ t. t) (none-Decides n)

change-Decides : (asked : LogAsked) (c : NumberedOf) → Decides (asks_change asked c) (IfSome asked.from (λ first. first ≤ c.number) × IfSome asked.name (SomeWithin (change_names c)))
change-Decides asked c =
    Decides-and (passes (λ first. nat_le first c.number) asked.from) (passes (some_within (change_names c)) asked.name)
    (passes-Decides (λ first. nat_le first c.number) (λ first. first ≤ c.number) (λ first. (leb-true first c.number, le-leb first c.number)) asked.from)
    (passes-Decides (some_within (change_names c)) (SomeWithin (change_names c)) (within-Decides (change_names c)) asked.name)

receipt-Decides : (asked : LogAsked) (k : KeptReceipt)
    → Decides (asks_receipt asked k) ((k.receipt.origin ≡ asked.origin) × (IfSome asked.caller (λ caller. k.caller ≡ caller) × IfSome asked.name (SomeWithin (update_names k.receipt.update))))
receipt-Decides asked k =
    let names = update_names k.receipt.update in
    Decides-and (same_name k.receipt.origin asked.origin) (passes (λ caller. bytes_eq k.caller caller) asked.caller && passes (some_within names) asked.name)
    (same_name-Decides k.receipt.origin asked.origin)
    (Decides-and (passes (λ caller. bytes_eq k.caller caller) asked.caller) (passes (some_within names) asked.name)
    (passes-Decides (λ caller. bytes_eq k.caller caller) (λ caller. k.caller ≡ caller) (λ caller. bytes_eq-Decides k.caller caller) asked.caller)
    (passes-Decides (some_within names) (SomeWithin names) (within-Decides names) asked.name))

-- ---- numbers

abbrev change_of : NumberedOf → ChangeOf
change_of c = record { removed = c.removed; added = c.added }

-- the change at a place has the number after all before it
placed : (n : ℕ) (cs : List ChangeOf) (c : NumberedOf) → Among c (numbered n cs) → (place : ℕ) × (slice_get cs place ≡ Some (change_of c)) × (c.number ≡ n + place)
placed n [] c among = absurd among
placed n (x ∷ xs) c (inl same) = (0, ap (λ (y : NumberedOf). Some (change_of y)) (sym same), ap (λ (y : NumberedOf). y.number) same ∙ sym (add-zero n))
placed n (x ∷ xs) c (inr later) = let found = placed (suc n) xs c later in (suc found.0, found.1, omega (arith, found.2))

there : (n : ℕ) (cs : List ChangeOf) (place : ℕ) (c : NumberedOf) → slice_get cs place ≡ Some (change_of c) → c.number ≡ n + place → Among c (numbered n cs)
there n [] place c at number = absurd (let bad : None ≡ Some (change_of c) = at in cc)
there n (x ∷ xs) zero c at number =
    let same : x ≡ change_of c = cc in
    inl (λ i. record { number = (number ∙ add-zero n) i; removed = (sym same i).removed; added = (sym same i).added })
there n (x ∷ xs) (suc place) c at number = inr (there (suc n) xs place c at (omega (arith, number)))

-- ---- the laws

pub changes_are_asked : ChangesAreAsked
changes_are_asked asked changes c =
    let kept = kept_if (asks_changes asked) (asks_change asked) (numbered 1 changes) c in
    let test = change-Decides asked c in
    let wants = wanted-Decides asked.from asked.caller in (
      λ found.
          let has = kept.0 found in
          let at = placed 1 changes c (among_of (numbered 1 changes) c has.1) in
          let fits = test.0 has.2 in
          record { place = at.0; is = at.1; number = omega (arith, at.2); wanted = wants.0 has.0; from = fits.0; name = fits.1 },
      λ is. kept.1 (wants.1 is.wanted, of_among (numbered 1 changes) c (there 1 changes is.place c is.is (omega (arith, is.number))), test.1 (is.from, is.name)),
    )

pub receipts_are_asked : ReceiptsAreAsked
receipts_are_asked asked kept k =
    let found_in = kept_if (asks_receipts asked) (asks_receipt asked) kept k in
    let test = receipt-Decides asked k in
    let wants = wanted-Decides asked.caller asked.from in (
      λ found.
          let has = found_in.0 found in
          let fits = test.0 has.2 in
          record { is = has.1; origin = fits.0; wanted = wants.0 has.0; caller = fits.1.0; name = fits.1.1 },
      λ is. found_in.1 (wants.1 is.wanted, is.is, test.1 (is.origin, (is.caller, is.name))),
    )

pub all_changes_are_asked : AllChangesAreAsked
all_changes_are_asked origin form changes = all_kept (numbered 1 changes)
