-- The prerequisites of a record set go into one part, in their order.
use Rattle.std.proofs.Common.{◌≡◌, ◌⊎◌, inl, inr, ◌∙◌, ℕ, zero, suc, ◌+◌, ◌≤◌, List, [], ◌∷◌, ◌++◌, length, map, true, false, cond, ◌==◌, ◌&&◌, eqb-true, Option, Some, None, is_none, if◌then◌else◌, arith, refl, sym, ap, subst, append-nil}
use Rattle.std.specs.List.{AllByRecursion, flat_map, range_with_len, zip}
use Rattle.std.proofs.lemmas.Bool.{and_parts}
use Rattle.std.proofs.lemmas.Bool.Decides.{nat_tests}
use Rattle.std.proofs.lemmas.List.{map-append}
use Rattle.std.proofs.lemmas.List.Concat.{flat_map-append}
use Rattle.dns_names.specs.Order.{same_name}
use Rattle.dns_data.specs.declared.record_type.RecordType.{RecordType}
use Rattle.dns_data.specs.declared.record_type.RecordType.TheVariants as types
use Rattle.dns_data.specs.declared.rdata.Data.{Data}
use Rattle.dns_data.specs.declared.rdata.Data.TheVariants as variants
use Rattle.dns_data.specs.Rdata.{type_of}
use Rattle.zone_core.specs.declared.update.Prerequisite.{Prerequisite}
use Rattle.zone_core.specs.declared.update.Prerequisite.TheVariants.{RrsetExists, RrsetEquals, RrsetAbsent, NameUsed, NameUnused}
use Rattle.zone_core.specs.declared.update.Operation.{Operation}
use Rattle.zone_core.specs.Sets.{rank_of}
use Rattle.zone_core.specs.Updates.{UpdateOf}
use Rattle.zone_core.specs.Prerequisites.{given_for}
use Rattle.zone_core.proofs.SetLemmas.{by_cases, name_is}
use Rattle.zone_core.proofs.ZoneLemmas.{no}
use Rattle.zone_tools.specs.UpdatesInTurn.{HasWholeSets}
use Rattle.zone_tools.proofs.InTurnLemmas.{all_join}
use Rattle.update_lines.specs.Reading.{behind, no_items}
use Rattle.cli_updates.specs.Octets.{bare_length, capped, sum_up}
use Rattle.cli_updates.specs.Slots.{acted_names, acted_place, first_at, in_places, is_place, is_soa_data, placed_at, tested_names, tested_place, unplaced}
use Rattle.cli_updates.specs.Filling.{PieceOf, filled, has_room, takes}
use Rattle.cli_updates.specs.Pieces.{guarded_piece, operation_pieces, pieces_of, split_of, tests_piece}

-- ---- lists of which one at most is not empty

module _ {Y : Type 0} (whole : List Y) where
  -- one list at most is not empty, and that is the whole
  abbrev AtMostOne : List (List Y) → Type 0
  AtMostOne [] = Unit {0}
  AtMostOne (x ∷ xs) = ((x ≡ []) × AtMostOne xs) ⊎ ((x ≡ whole) × AllByRecursion (λ y. y ≡ []) xs)

  none_at_most : (xs : List (List Y)) → AllByRecursion (λ y. y ≡ []) xs → AtMostOne xs
  none_at_most [] all = tt
  none_at_most (x ∷ xs) all = inl (all.0, none_at_most xs all.1)

  one_before : (xs ys : List (List Y)) → AtMostOne xs → AllByRecursion (λ y. y ≡ []) ys → AtMostOne (xs ++ ys)
  one_before [] ys one none = none_at_most ys none
  one_before (x ∷ xs) ys (inl here) none = inl (here.0, one_before xs ys here.1 none)
  one_before (x ∷ xs) ys (inr here) none = inr (here.0, all_join (λ y. y ≡ []) xs ys here.1 none)

  one_behind : (xs ys : List (List Y)) → AllByRecursion (λ y. y ≡ []) xs → AtMostOne ys → AtMostOne (xs ++ ys)
  one_behind [] ys none one = one
  one_behind (x ∷ xs) ys none one = inl (none.0, one_behind xs ys none.1 one)

-- ---- what prerequisites give of a set

module _ (name : List (List ℕ)) (t : RecordType) (tests : List Prerequisite) where
  abbrev gives : List Prerequisite → List Data
  gives ps = flat_map (given_for name t) ps

  gives_two : (xs ys : List Prerequisite) → gives (xs ++ ys) ≡ gives xs ++ gives ys
  gives_two xs ys = flat_map-append (given_for name t) xs ys

  abbrev given_in : PieceOf → List Data
  given_in q = gives q.items.prerequisites

  abbrev Part : UpdateOf → Type 0
  Part u = (gives u.prerequisites ≡ []) ⊎ (gives u.prerequisites ≡ gives tests)

  -- ---- parts that are filled

  -- what a part gives so far, and the pieces after it
  abbrev Filling : UpdateOf → List PieceOf → Type 0
  Filling u ps =
      ((gives u.prerequisites ≡ []) × AtMostOne (gives tests) (map given_in ps)) ⊎ ((gives u.prerequisites ≡ gives tests) × AllByRecursion (λ y. y ≡ []) (map given_in ps))

  part_of : (u : UpdateOf) (ps : List PieceOf) → Filling u ps → Part u
  part_of u ps (inl none) = inl none.0
  part_of u ps (inr one) = inr one.0

  more_of : (u : UpdateOf) (p : PieceOf) (ps : List PieceOf) → Filling u (p ∷ ps) → Filling (behind u p.items) ps
  more_of u p ps (inl (none, inl later)) = inl (both_none none later.0, later.1)
    where
      both_none : gives u.prerequisites ≡ [] → given_in p ≡ [] → gives (u.prerequisites ++ p.items.prerequisites) ≡ []
      both_none e f = gives_two u.prerequisites p.items.prerequisites ∙ ap (λ l. l ++ given_in p) e ∙ f
  more_of u p ps (inl (none, inr here)) = inr (gives_two u.prerequisites p.items.prerequisites ∙ ap (λ l. l ++ given_in p) none ∙ here.0, here.1)
  more_of u p ps (inr one) =
      inr (gives_two u.prerequisites p.items.prerequisites ∙ ap (λ l. gives u.prerequisites ++ l) one.1.0 ∙ append-nil (gives u.prerequisites) ∙ one.0, one.1.1)

  next_of : (u : UpdateOf) (p : PieceOf) (ps : List PieceOf) → Filling u (p ∷ ps) → Filling p.items ps
  next_of u p ps (inl (none, inl later)) = inl later
  next_of u p ps (inl (none, inr here)) = inr here
  next_of u p ps (inr one) = inl (one.1.0, none_at_most (gives tests) (map given_in ps) one.1.1)

  filled_parts : (frame n : ℕ) (u : UpdateOf) (ps : List PieceOf) → Filling u ps → AllByRecursion Part (filled frame n u ps)
  filled_parts frame n u [] state = (part_of u [] state, tt)
  filled_parts frame n u (p ∷ ps) state =
      by_cases (takes n u p) _
      (λ e. rw e (filled_parts frame (sum_up n p.octets) (behind u p.items) ps (more_of u p ps state)))
      (λ e. rw e (part_of u (p ∷ ps) state, filled_parts frame (sum_up frame p.octets) p.items ps (next_of u p ps state)))

  -- ---- places

  -- each prerequisite gives nothing of the set, or has this place
  abbrev Placed : (Prerequisite → Option ℕ) → Option ℕ → Type 0
  Placed place o = (p : Prerequisite) → (given_for name t p ≡ []) ⊎ (place p ≡ o)

  module _ (place : Prerequisite → Option ℕ) (o : Option ℕ) (placed : Placed place o) where
    elsewhere : (k : ℕ) → is_place k o ≡ false → (ps : List Prerequisite) → gives (placed_at place ps k) ≡ []
    elsewhere k away [] = refl
    elsewhere k away (p ∷ ps) =
        by_cases (is_place k (place p)) (gives (placed_at place (p ∷ ps) k) ≡ [])
        (λ e. rw e (ap (λ l. l ++ gives (placed_at place ps k)) (nothing e (placed p)) ∙ elsewhere k away ps))
        (λ e. rw e (elsewhere k away ps))
      where
        nothing : is_place k (place p) ≡ true → (given_for name t p ≡ []) ⊎ (place p ≡ o) → given_for name t p ≡ []
        nothing e (inl none) = none
        nothing e (inr same) = absurd (no (is_place k o) (ap (is_place k) (sym same) ∙ e) away)

    there : (k : ℕ) → is_place k o ≡ true → (ps : List Prerequisite) → gives (placed_at place ps k) ≡ gives ps
    there k here [] = refl
    there k here (p ∷ ps) =
        by_cases (is_place k (place p)) (gives (placed_at place (p ∷ ps) k) ≡ gives (p ∷ ps))
        (λ e. rw e (ap (λ l. given_for name t p ++ l) (there k here ps)))
        (λ e. rw e (there k here ps ∙ sym (ap (λ l. l ++ gives ps) (nothing e (placed p)))))
      where
        nothing : is_place k (place p) ≡ false → (given_for name t p ≡ []) ⊎ (place p ≡ o) → given_for name t p ≡ []
        nothing e (inl none) = none
        nothing e (inr same) = absurd (no (is_place k o) here (ap (is_place k) (sym same) ∙ e))

    abbrev slots : List Prerequisite → ℕ → ℕ → List (List Prerequisite)
    slots ps a n = map (placed_at place ps) (range_with_len a n)

    -- no place from this on
    none_past : (ps : List Prerequisite) (n a : ℕ) → ((k : ℕ) → a ≤ k → is_place k o ≡ false) → AllByRecursion (λ y. y ≡ []) (map gives (slots ps a n))
    none_past ps zero a past = tt
    none_past ps (suc n) a past = (elsewhere a (past a (omega arith)) ps, none_past ps n (a + 1) (λ k le. past k (omega (arith, le))))

    past_place : (o : Option ℕ) (a : ℕ) → is_place a o ≡ true → (k : ℕ) → a + 1 ≤ k → is_place k o ≡ false
    past_place None a e k le = absurd cc
    past_place (Some i) a e k le = let same = eqb-true i a e in grind (arith, nat_tests, same, le)

    slots_once : (ps : List Prerequisite) (n a : ℕ) → AtMostOne (gives ps) (map gives (slots ps a n))
    slots_once ps zero a = tt
    slots_once ps (suc n) a =
        by_cases (is_place a o) _ (λ e. inr (there a e ps, none_past ps n (a + 1) (past_place o a e))) (λ e. inl (elsewhere a e ps, slots_once ps n (a + 1)))

  -- ---- the place of a set

  -- no data of a set go to a place by their operation if they are of an SOA
  abbrev acted_at : List Operation → Option ℕ
  acted_at ops = if rank_of t == rank_of types.Soa then None else first_at (acted_names ops) name

  soa_rank : (d : Data) → is_soa_data d ≡ (rank_of (type_of d) == rank_of types.Soa)
  soa_rank (variants.Soa soa) = refl
  soa_rank d = refl

  -- what gives data of the set tests its name, and data of its type
  given_at : (P : Prerequisite → Type 0) → ((n : List (List ℕ)) (d : Data) → n ≡ name → rank_of (type_of d) ≡ rank_of t → P (RrsetEquals n d)) → (p : Prerequisite)
      → (given_for name t p ≡ []) ⊎ P p
  given_at P holds (RrsetExists n u) = inl refl
  given_at P holds (RrsetEquals n d) =
      by_cases (same_name n name && (rank_of (type_of d) == rank_of t)) _
      (λ e. let both = and_parts (same_name n name) (rank_of (type_of d) == rank_of t) e in
      inr (holds n d (name_is n name both.0) (eqb-true (rank_of (type_of d)) (rank_of t) both.1)))
      (λ e. inl (ap (λ b. cond b (d ∷ []) []) e))
  given_at P holds (RrsetAbsent n u) = inl refl
  given_at P holds (NameUsed n) = inl refl
  given_at P holds (NameUnused n) = inl refl

  acted_placed : (ops : List Operation) → Placed (acted_place ops) (acted_at ops)
  acted_placed ops =
      given_at (λ p. acted_place ops p ≡ acted_at ops) (λ n d here type.
      (λ i. if (soa_rank d ∙ ap (λ r. r == rank_of types.Soa) type) i then None else first_at (acted_names ops) (here i)))

  tested_placed : (ps : List Prerequisite) → Placed (tested_place ps) (first_at (tested_names ps) name)
  tested_placed ps = given_at (λ p. tested_place ps p ≡ first_at (tested_names ps) name) (λ n d here type. ap (first_at (tested_names ps)) here)

  -- ---- the pieces

  module _ (id : List ℕ) (frame : ℕ) where
    tests_given : (slots : List (List Prerequisite)) → map given_in (map (tests_piece id) slots) ≡ map gives slots
    tests_given [] = refl
    tests_given (slot ∷ slots) = ap (λ l. gives slot ∷ l) (tests_given slots)

    pieces_none : (slots : List (List Prerequisite)) (ops : List Operation) → AllByRecursion (λ y. y ≡ []) (map gives slots)
        → AllByRecursion (λ y. y ≡ []) (map given_in (flat_map (operation_pieces id frame) (zip slots ops)))
    pieces_none [] ops none = tt
    pieces_none (slot ∷ slots) [] none = tt
    pieces_none (slot ∷ slots) (op ∷ ops) none =
        let rest = pieces_none slots ops none.1 in
        by_cases (has_room frame no_items (guarded_piece id slot op)) _ (λ e. rw e (none.0, rest)) (λ e. rw e (none.0, (refl, rest)))

    pieces_once : (slots : List (List Prerequisite)) (ops : List Operation) → AtMostOne (gives tests) (map gives slots)
        → AtMostOne (gives tests) (map given_in (flat_map (operation_pieces id frame) (zip slots ops)))
    pieces_once [] ops once = tt
    pieces_once (slot ∷ slots) [] once = tt
    pieces_once (slot ∷ slots) (op ∷ ops) (inl later) =
        let rest = pieces_once slots ops later.1 in
        by_cases (has_room frame no_items (guarded_piece id slot op)) _ (λ e. rw e (inl (later.0, rest))) (λ e. rw e (inl (later.0, inl (refl, rest))))
    pieces_once (slot ∷ slots) (op ∷ ops) (inr here) =
        let rest = pieces_none slots ops here.1 in
        by_cases (has_room frame no_items (guarded_piece id slot op)) _ (λ e. rw e (inr (here.0, rest))) (λ e. rw e (inr (here.0, (refl, rest))))

  -- the prerequisites without a place
  unplaced_all : (ops : List Operation) → acted_at ops ≡ None → (ps : List Prerequisite) → gives (unplaced ops ps) ≡ gives ps
  unplaced_all ops none [] = refl
  unplaced_all ops none (p ∷ ps) =
      by_cases (is_none (acted_place ops p)) (gives (unplaced ops (p ∷ ps)) ≡ gives (p ∷ ps))
      (λ e. rw e (ap (λ l. given_for name t p ++ l) (unplaced_all ops none ps)))
      (λ e. rw e (unplaced_all ops none ps ∙ sym (ap (λ l. l ++ gives ps) (nothing e (acted_placed ops p)))))
    where
      nothing : is_none (acted_place ops p) ≡ false → (given_for name t p ≡ []) ⊎ (acted_place ops p ≡ acted_at ops) → given_for name t p ≡ []
      nothing e (inl bare) = bare
      nothing e (inr same) = absurd (no (is_none (acted_place ops p)) (ap is_none (same ∙ none)) e)

  unplaced_none : (ops : List Operation) (i : ℕ) → acted_at ops ≡ Some i → (ps : List Prerequisite) → gives (unplaced ops ps) ≡ []
  unplaced_none ops i some [] = refl
  unplaced_none ops i some (p ∷ ps) =
      by_cases (is_none (acted_place ops p)) (gives (unplaced ops (p ∷ ps)) ≡ [])
      (λ e. rw e (ap (λ l. l ++ gives (unplaced ops ps)) (nothing e (acted_placed ops p)) ∙ unplaced_none ops i some ps))
      (λ e. rw e (unplaced_none ops i some ps))
    where
      nothing : is_none (acted_place ops p) ≡ true → (given_for name t p ≡ []) ⊎ (acted_place ops p ≡ acted_at ops) → given_for name t p ≡ []
      nothing e (inl bare) = bare
      nothing e (inr same) = absurd (no (is_none (acted_place ops p)) e (ap is_none (same ∙ some)))

  once_none : (xs : List (List Data)) → AtMostOne [] xs → AllByRecursion (λ y. y ≡ []) xs
  once_none [] one = tt
  once_none (x ∷ xs) (inl here) = (here.0, once_none xs here.1)
  once_none (x ∷ xs) (inr here) = here

  module _ (id : List ℕ) (frame : ℕ) (ops : List Operation) where
    abbrev first : List Prerequisite
    first = unplaced ops tests

    abbrev before : List (List Prerequisite)
    before = in_places (tested_place first) first (length first)

    abbrev beside : List (List Prerequisite)
    beside = in_places (acted_place ops) tests (length ops)

    before_once : AtMostOne (gives first) (map gives before)
    before_once = slots_once (tested_place first) (first_at (tested_names first) name) (tested_placed first) first (length first) 0

    all_once : AtMostOne (gives tests) (map gives before ++ map given_in (flat_map (operation_pieces id frame) (zip beside ops)))
    all_once = by_place (acted_at ops) refl
      where
        by_place : (o : Option ℕ) → acted_at ops ≡ o → AtMostOne (gives tests) (map gives before ++ map given_in (flat_map (operation_pieces id frame) (zip beside ops)))
        by_place None e =
            one_before (gives tests) (map gives before) _ (subst (λ w. AtMostOne w (map gives before)) (unplaced_all ops e tests) before_once)
            (pieces_none id frame beside ops (none_past (acted_place ops) (acted_at ops) (acted_placed ops) tests (length ops) 0 (λ k le. ap (is_place k) e)))
        by_place (Some i) e =
            one_behind (gives tests) (map gives before) _ (once_none (map gives before) (subst (λ w. AtMostOne w (map gives before)) (unplaced_none ops i e tests) before_once))
            (pieces_once id frame beside ops (slots_once (acted_place ops) (acted_at ops) (acted_placed ops) tests (length ops) 0))

    pieces_given : map given_in (pieces_of id frame tests ops) ≡ map gives before ++ map given_in (flat_map (operation_pieces id frame) (zip beside ops))
    pieces_given =
        map-append given_in (map (tests_piece id) before) (flat_map (operation_pieces id frame) (zip beside ops))
        ∙ ap (λ l. l ++ map given_in (flat_map (operation_pieces id frame) (zip beside ops))) (tests_given id frame before)

    parts_given : AllByRecursion Part (filled frame frame no_items (pieces_of id frame tests ops))
    parts_given = filled_parts frame frame no_items (pieces_of id frame tests ops) (inl (refl, subst (AtMostOne (gives tests)) (sym pieces_given) all_once))

-- for each set there is a proof of the whole list: turned round, each part has one for each set
each_set : (tests : List Prerequisite) (us : List UpdateOf) → ((name : List (List ℕ)) (t : RecordType) → AllByRecursion (Part name t tests) us) → AllByRecursion (HasWholeSets tests) us
each_set tests [] all = tt
each_set tests (u ∷ us) all = (λ name t. (all name t).0, each_set tests us (λ name t. (all name t).1))

pub split_together : (id : List ℕ) (tests : List Prerequisite) (ops : List Operation) → AllByRecursion (HasWholeSets tests) (split_of id tests ops)
split_together id tests ops = each_set tests (split_of id tests ops) (λ name t. parts_given name t tests id (capped (bare_length id)) ops)
