-- The rules that entries make decide as the entries do.
use native.Mathlib.Nat.{suc-mul, zero-mul}
use Rattle.std.proofs.Common.{◌≡◌, ◌≢◌, ◌⊎◌, inl, inr, ℕ, zero, suc, ◌+◌, ◌*◌, ◌<◌, ◌≤◌, Bool, true, false, ◌||◌, cond, List, [], ◌∷◌, ◌++◌, length, map, Some, None, Ok, Err, refl, sym, ap, ◌∙◌, subst, ⊎_elim, append_assoc, append-nil, codes, arith, ltb, length-append}
use Rattle.std.specs.Prelude.{bytes_eq, slice_get}
use Rattle.std.specs.List.{AllByRecursion, Contains, IsDistinct}
use Rattle.std.proofs.lemmas.Bool.{cases_Bool, cases_lt, lt-ltb, false≢true}
use Rattle.std.proofs.lemmas.Bool.Decides.{not_from_Decides}
use Rattle.std.proofs.lemmas.List.{length-map}
use Rattle.std.proofs.lemmas.List.Elements.{Contains-append_left, Contains-append_right, Contains-append_cases}
use Rattle.std.proofs.lemmas.Slice.Eq.{bytes_eq-Decides}
use Rattle.grant_policy.specs.declared.callers.Callers.{Callers}
use Rattle.grant_policy.specs.declared.rule.Rule.{Rule}
use Rattle.grant_policy.specs.Decisions.{decided, decision, denied}
use Rattle.grant_policy.specs.Documents.{AreRules}
use Rattle.grant_policy.specs.Reading.{is_identifier}
use Rattle.grant_policy.specs.Rules.{Question, Matches, matches}
use Rattle.grant_policy.proofs.RuleLemmas.{matches-Decides}
use Rattle.policy_build.specs.declared.build_fault.BuildFault.TheVariants.{Repeated, Reserved, IdTooLong, TooManyRules}
use Rattle.policy_build.specs.declared.names.Names.{Names}
use Rattle.policy_build.specs.declared.place.FileKey.TheVariants as key
use Rattle.policy_build.specs.declared.place.Place.{Place}
use Rattle.policy_build.specs.Entries.{EntryOf, entries_in, few_rules}
use Rattle.policy_build.specs.Faults.{◌>>=◌}
use Rattle.policy_build.specs.Making.{PairOf, MadeOf, BuiltOf, pairs_with, products, made_id, is_taken, free_id, rule_for, with_rule, numbered, made_in, made_from, built_of, rules_made}
use Rattle.policy_build.specs.Meaning.{Speaks, IsFirstEntry, NoneSpeaks, IsDecidedFor, IsMeant}
use Rattle.policy_build.specs.Places.{at_key}
use Rattle.policy_build.specs.Resolving.{RowOf, members_from, rows_from}
use Rattle.policy_build.specs.Sources.{SourceOf}
use Rattle.policy_build.proofs.ResolvingLaws.{ok, same_Ok, not_Err, bind_ok, cond_ok, first_or_later, first_is, later_is, none_in, resolved}

-- ---- pairs

abbrev pub pair_for : Callers → Names → PairOf
pair_for c n = record { callers = c; names = n }

with_found : (c : Callers) (ns : List Names) (p : PairOf) → Contains (pairs_with c ns) p → (c ≡ p.callers) × Contains ns p.names
with_found c [] p h = absurd (none_in p h)
with_found c (n ∷ ns) p h =
    ⊎_elim
    (λ (here : pair_for c n ≡ p). (ap (λ (q : PairOf). q.callers) here, subst (λ (m : Names). Contains (n ∷ ns) m) (ap (λ (q : PairOf). q.names) here) (first_is n ns)))
    (λ (later : Contains (pairs_with c ns) p). let f = with_found c ns p later in (f.0, later_is n ns p.names f.1))
    (first_or_later (pair_for c n) (pairs_with c ns) p h)

with_there : (c : Callers) (ns : List Names) (n : Names) → Contains ns n → Contains (pairs_with c ns) (pair_for c n)
with_there c [] n h = absurd (none_in n h)
with_there c (m ∷ ns) n h =
    ⊎_elim
    (λ (here : m ≡ n). subst (λ (x : Names). Contains (pairs_with c (m ∷ ns)) (pair_for c x)) here (first_is (pair_for c m) (pairs_with c ns)))
    (λ (later : Contains ns n). later_is (pair_for c m) (pairs_with c ns) (pair_for c n) (with_there c ns n later))
    (first_or_later m ns n h)

products_found : (before : List PairOf) (cs : List Callers) (ns : List Names) (p : PairOf) → Contains (products before cs ns) p → Contains before p ⊎ (Contains cs p.callers × Contains ns p.names)
products_found before [] ns p h = inl h
products_found before (c ∷ cs) ns p h =
    ⊎_elim
    (λ (old : Contains (before ++ pairs_with c ns) p).
    ⊎_elim
    (λ (b : Contains before p). inl b)
    (λ (w : Contains (pairs_with c ns) p). let f = with_found c ns p w in inr (subst (λ (d : Callers). Contains (c ∷ cs) d) f.0 (first_is c cs), f.1))
    (Contains-append_cases before (pairs_with c ns) p old))
    (λ (new : Contains cs p.callers × Contains ns p.names). inr (later_is c cs p.callers new.0, new.1))
    (products_found (before ++ pairs_with c ns) cs ns p h)

products_kept : (before : List PairOf) (cs : List Callers) (ns : List Names) (p : PairOf) → Contains before p → Contains (products before cs ns) p
products_kept before [] ns p h = h
products_kept before (c ∷ cs) ns p h = products_kept (before ++ pairs_with c ns) cs ns p (Contains-append_left before (pairs_with c ns) p h)

products_there : (before : List PairOf) (cs : List Callers) (ns : List Names) (c : Callers) (n : Names) → Contains cs c → Contains ns n → Contains (products before cs ns) (pair_for c n)
products_there before [] ns c n hc hn = absurd (none_in c hc)
products_there before (d ∷ cs) ns c n hc hn =
    ⊎_elim
    (λ (here : d ≡ c).
    products_kept (before ++ pairs_with d ns) cs ns (pair_for c n) (Contains-append_right before (pairs_with d ns) (pair_for c n) (subst (λ (e : Callers). Contains (pairs_with d ns) (pair_for e n)) here (with_there d ns n hn))))
    (λ (later : Contains cs c). products_there (before ++ pairs_with d ns) cs ns c n later hn)
    (first_or_later d cs c hc)

pub products_length : (before : List PairOf) (cs : List Callers) (ns : List Names) → length (products before cs ns) ≡ length before + length cs * length ns
products_length before [] ns = omega (arith, zero-mul (length ns))
products_length before (c ∷ cs) ns =
    let ih = products_length (before ++ pairs_with c ns) cs ns in
    let one : length (pairs_with c ns) ≡ length ns = length-map ns (pair_for c) in
    let all : length (before ++ pairs_with c ns) ≡ length before + length (pairs_with c ns) = length-append before (pairs_with c ns) in
    let times : suc (length cs) * length ns ≡ length cs * length ns + length ns = suc-mul (length cs) (length ns) in
    omega (arith, ih, one, all, times)

-- ---- the rules of an entry

module _ (entry : EntryOf) (number : ℕ) where
  abbrev pub made_for : List ℕ → PairOf → MadeOf
  made_for id p = record { rule = rule_for entry id p; entry = number }

  -- one rule for each pair, in order
  abbrev pub IsBlock : List PairOf → List MadeOf → Type 0
  IsBlock [] here = here ≡ []
  IsBlock (p ∷ ps) here = (id : List ℕ) × (rest : List MadeOf) × (here ≡ made_for id p ∷ rest) × IsBlock ps rest

  pub rule_step : (count k : ℕ) (before : List MadeOf) (p : PairOf) (made : List MadeOf) → with_rule entry number count k before p ≡ Ok made
      → (id : List ℕ) × (free_id entry.place before (made_id entry.id count k) ≡ Ok id) × (made ≡ before ++ made_for id p ∷ [])
  rule_step count k before p made e =
      let a = bind_ok (free_id entry.place before (made_id entry.id count k)) (λ id. Ok (before ++ made_for id p ∷ [])) made e in
      (a.0, a.1, sym (same_Ok (before ++ made_for a.0 p ∷ []) made a.2))

  pub numbered_block : (count k : ℕ) (before : List MadeOf) (ps : List PairOf) (made : List MadeOf) → numbered entry number count k before ps ≡ Ok made → (here : List MadeOf) × (made ≡ before ++ here) × IsBlock ps here
  numbered_block count k before [] made e = ([], sym (same_Ok before made e) ∙ sym (append-nil before), refl)
  numbered_block count k before (p ∷ ps) made e =
      let a = bind_ok (with_rule entry number count k before p) (λ m. numbered entry number count (k + 1) m ps) made e in
      let s = rule_step count k before p a.0 a.1 in
      let ih = numbered_block count (k + 1) a.0 ps made a.2 in (
        made_for s.0 p ∷ ih.0,
        ih.1 ∙ ap (λ (l : List MadeOf). l ++ ih.0) s.2 ∙ append_assoc before (made_for s.0 p ∷ []) ih.0,
        (s.0, ih.0, refl, ih.2),
      )

  module _ (asked : Question) where
    -- the pair is one that a rule of the entry matches by
    abbrev pub PairMatches : PairOf → Type 0
    PairMatches p = Matches asked (rule_for entry [] p)

    same_match : (id other : List ℕ) (p : PairOf) → Matches asked (rule_for entry id p) → Matches asked (rule_for entry other p)
    same_match id other p m = record { callers = m.callers; scope = m.scope; types = m.types; actions = m.actions }

    -- a rule of the block decides, or none of its pairs matches and the rules after it decide
    pub record IsDecidedHere (ps : List PairOf) (here more : List MadeOf) : Type 0 where
      pub pair : PairOf
      pub among : Contains ps pair
      pub matching : PairMatches pair
      pub rule : MadeOf
      pub contained : Contains here rule
      pub from : rule.entry ≡ number
      pub effect : rule.rule.effect ≡ entry.rule.effect
      pub decides : decision asked (rules_made (here ++ more)) ≡ decided rule.rule

    abbrev pub NonePairMatches : List PairOf → Type 0
    NonePairMatches ps = (p : PairOf) → Contains ps p → ¬ PairMatches p

    pub block_decides : (ps : List PairOf) (here more : List MadeOf) → IsBlock ps here → IsDecidedHere ps here more ⊎ (NonePairMatches ps × (decision asked (rules_made (here ++ more)) ≡ decision asked (rules_made more)))
    block_decides [] here more is = inr (λ p c m. none_in p c, ap (λ (l : List MadeOf). decision asked (rules_made (l ++ more))) is)
    block_decides (p ∷ ps) here more (id, rest, is, block) =
        let r = made_for id p in
        let tells = matches-Decides asked r.rule in
        let opened : decision asked (rules_made (here ++ more)) ≡ cond (matches asked r.rule) (decided r.rule) (decision asked (rules_made (rest ++ more))) = ap (λ (l : List MadeOf). decision asked (rules_made (l ++ more))) is in
        ⊎_elim
        (λ (yes' : matches asked r.rule ≡ true).
        inl (record {
          pair = p;
          among = first_is p ps;
          matching = same_match id [] p (tells.0 yes');
          rule = r;
          contained = subst (λ (l : List MadeOf). Contains l r) (sym is) (first_is r rest);
          from = refl;
          effect = refl;
          decides = opened ∙ ap (λ b. cond b (decided r.rule) (decision asked (rules_made (rest ++ more)))) yes';
        }))
        (λ (no' : matches asked r.rule ≡ false).
        let passed : decision asked (rules_made (here ++ more)) ≡ decision asked (rules_made (rest ++ more)) = opened ∙ ap (λ b. cond b (decided r.rule) (decision asked (rules_made (rest ++ more)))) no' in
        ⊎_elim
        (λ (d : IsDecidedHere ps rest more).
        inl (record {
          pair = d.pair;
          among = later_is p ps d.pair d.among;
          matching = d.matching;
          rule = d.rule;
          contained = subst (λ (l : List MadeOf). Contains l d.rule) (sym is) (later_is r rest d.rule d.contained);
          from = d.from;
          effect = d.effect;
          decides = passed ∙ d.decides;
        }))
        (λ (n : NonePairMatches ps × (decision asked (rules_made (rest ++ more)) ≡ decision asked (rules_made more))).
        inr (
          λ q c m.
              ⊎_elim
              (λ (same : p ≡ q). false≢true (sym no' ∙ tells.1 (same_match [] id p (subst PairMatches (sym same) m))))
              (λ (later : Contains ps q). n.0 q later m)
              (first_or_later p ps q c),
          passed ∙ n.1,
        ))
        (block_decides ps rest more block))
        (cases_Bool (matches asked r.rule))

-- ---- the rules of entries

module _ (source : SourceOf) (callers : List (RowOf Callers)) (names : List (RowOf Names)) (are_callers : rows_from [] source.callers ≡ Ok callers) (are_names : rows_from [] source.names ≡ Ok names) where
  -- what an entry makes
  pub record IsMadeBy (number : ℕ) (before : List MadeOf) (entry : EntryOf) (made : List MadeOf) : Type 0 where
    pub cs : List Callers
    pub ns : List Names
    pub are_cs : members_from (at_key entry.callers.place key.Callers) callers [] entry.callers.members ≡ Ok cs
    pub are_ns : members_from (at_key entry.names.place key.Names) names [] entry.names.members ≡ Ok ns
    pub few : length before + length cs * length ns ≤ 1024
    pub made_rules : numbered entry number (length (products [] cs ns)) 1 before (products [] cs ns) ≡ Ok made

  few_ok : (place : Place) (count got : ℕ) → few_rules place count ≡ Ok got → count ≤ 1024
  few_ok place count got e =
      let one = cond_ok (ltb 1024 count) (TooManyRules place count) (Ok count) got e in
      ⊎_elim (λ (more : 1024 < count). absurd (false≢true (sym one.0 ∙ lt-ltb 1024 count more))) (λ (upto : count ≤ 1024). upto) (cases_lt 1024 count)

  made_by : (number : ℕ) (before : List MadeOf) (entry : EntryOf) (made : List MadeOf) → made_in callers names number before entry ≡ Ok made → IsMadeBy number before entry made
  made_by number before entry made e =
      let f3 = λ (cs : List Callers) (ns : List Names) (count : ℕ). numbered entry number (length (products [] cs ns)) 1 before (products [] cs ns) in
      let f2 = λ (cs : List Callers) (ns : List Names). few_rules entry.place (length before + length cs * length ns) >>= f3 cs ns in
      let f1 = λ (cs : List Callers). members_from (at_key entry.names.place key.Names) names [] entry.names.members >>= f2 cs in
      let a = bind_ok (members_from (at_key entry.callers.place key.Callers) callers [] entry.callers.members) f1 made e in
      let b = bind_ok (members_from (at_key entry.names.place key.Names) names [] entry.names.members) (f2 a.0) made a.2 in
      let c = bind_ok (few_rules entry.place (length before + length a.0 * length b.0)) (f3 a.0 b.0) made b.2 in
      record { cs = a.0; ns = b.0; are_cs = a.1; are_ns = b.1; few = few_ok entry.place (length before + length a.0 * length b.0) c.0 c.1; made_rules = c.2 }

  module _ (asked : Question) where
    speaks_from : (number : ℕ) (before : List MadeOf) (entry : EntryOf) (made : List MadeOf) (by : IsMadeBy number before entry made) (p : PairOf) → Contains (products [] by.cs by.ns) p → PairMatches entry number asked p → Speaks source asked entry
    speaks_from number before entry made by p c m =
        ⊎_elim
        (λ (h : Contains [] p). absurd (none_in p h))
        (λ (h : Contains by.cs p.callers × Contains by.ns p.names).
        record {
          callers = (p.callers, (resolved source.callers callers are_callers (at_key entry.callers.place key.Callers) entry.callers.members by.cs by.are_cs p.callers).0 h.0, m.callers);
          names = (p.names, (resolved source.names names are_names (at_key entry.names.place key.Names) entry.names.members by.ns by.are_ns p.names).0 h.1, m.scope);
          types = m.types;
          actions = m.actions;
        })
        (products_found [] by.cs by.ns p c)

    speaks_to : (number : ℕ) (before : List MadeOf) (entry : EntryOf) (made : List MadeOf) (by : IsMadeBy number before entry made) → Speaks source asked entry → (p : PairOf) × Contains (products [] by.cs by.ns) p × PairMatches entry number asked p
    speaks_to number before entry made by s =
        let c = s.callers in
        let n = s.names in
        let hc = (resolved source.callers callers are_callers (at_key entry.callers.place key.Callers) entry.callers.members by.cs by.are_cs c.0).1 c.1 in
        let hn = (resolved source.names names are_names (at_key entry.names.place key.Names) entry.names.members by.ns by.are_ns n.0).1 n.1 in
        (pair_for c.0 n.0, products_there [] by.cs by.ns c.0 n.0 hc hn, record { callers = c.2; scope = n.2; types = s.types; actions = s.actions })

    -- the rules of entries, from this number on, decide as the entries do
    abbrev pub IsMeantBy : ℕ → List EntryOf → List MadeOf → Type 0
    IsMeantBy number entries here =
        ((i : ℕ) × (entry : EntryOf) × IsFirstEntry source asked entries i entry × IsDecidedFor here asked (number + i) entry)
        ⊎ (NoneSpeaks source asked entries × (decision asked (rules_made here) ≡ denied None))

    same_Some : (a b : EntryOf) → Some a ≡ Some b → a ≡ b
    same_Some a b e = cc

    none_at : (j : ℕ) (entry : EntryOf) → slice_get [] j ≡ Some entry → ⊥
    none_at zero entry e = cc
    none_at (suc j) entry e = cc

    none_first : (entry : EntryOf) (entries : List EntryOf) → ¬ Speaks source asked entry → NoneSpeaks source asked entries → NoneSpeaks source asked (entry ∷ entries)
    none_first entry entries silent none zero other e s = silent (subst (Speaks source asked) (sym (same_Some entry other e)) s)
    none_first entry entries silent none (suc j) other e s = none j other e s

    below_first : (entry : EntryOf) (entries : List EntryOf) (i : ℕ) → ¬ Speaks source asked entry → ((j : ℕ) (earlier : EntryOf) → j < i → slice_get entries j ≡ Some earlier → ¬ Speaks source asked earlier)
        → (j : ℕ) (earlier : EntryOf) → j < suc i → slice_get (entry ∷ entries) j ≡ Some earlier → ¬ Speaks source asked earlier
    below_first entry entries i silent first zero earlier lt e s = silent (subst (Speaks source asked) (sym (same_Some entry earlier e)) s)
    below_first entry entries i silent first (suc j) earlier lt e s = first j earlier (omega arith) e s

    meant_by : (number : ℕ) (before : List MadeOf) (entries : List EntryOf) (made : List MadeOf) → made_from callers names number before entries ≡ Ok made → (here : List MadeOf) × (made ≡ before ++ here) × IsMeantBy number entries here
    meant_by number before [] made e = ([], sym (same_Ok before made e) ∙ sym (append-nil before), inr (λ j entry at s. none_at j entry at, refl))
    meant_by number before (entry ∷ entries) made e =
        let a = bind_ok (made_in callers names number before entry) (λ m. made_from callers names (number + 1) m entries) made e in
        let by = made_by number before entry a.0 a.1 in
        let block = numbered_block entry number (length (products [] by.cs by.ns)) 1 before (products [] by.cs by.ns) a.0 by.made_rules in
        let ih = meant_by (number + 1) a.0 entries made a.2 in
        let whole : made ≡ before ++ (block.0 ++ ih.0) = ih.1 ∙ ap (λ (l : List MadeOf). l ++ ih.0) block.1 ∙ append_assoc before block.0 ih.0 in (
          block.0 ++ ih.0,
          whole,
          ⊎_elim
              (λ (d : IsDecidedHere entry number asked (products [] by.cs by.ns) block.0 ih.0).
              inl (
                0,
                entry,
                record { at = refl; speaking = speaks_from number before entry a.0 by d.pair d.among d.matching; first = λ j earlier lt at s. absurd (omega (arith, lt)) },
                record { rule = d.rule; contained = Contains-append_left block.0 ih.0 d.rule d.contained; from = omega (arith, d.from); effect = d.effect; decides = d.decides },
              ))
              (λ (n : NonePairMatches entry number asked (products [] by.cs by.ns) × (decision asked (rules_made (block.0 ++ ih.0)) ≡ decision asked (rules_made ih.0))).
              let no : ¬ Speaks source asked entry = λ s. (let p = speaks_to number before entry a.0 by s in n.0 p.0 p.1 p.2) in
              ⊎_elim
              (λ (later : (i : ℕ) × (other : EntryOf) × IsFirstEntry source asked entries i other × IsDecidedFor ih.0 asked (number + 1 + i) other).
              inl (
                suc later.0,
                later.1,
                record { at = later.2.at; speaking = later.2.speaking; first = below_first entry entries later.0 no later.2.first },
                record { rule = later.3.rule; contained = Contains-append_right block.0 ih.0 later.3.rule later.3.contained; from = omega (arith, later.3.from); effect = later.3.effect; decides = n.1 ∙ later.3.decides },
              ))
              (λ (none : NoneSpeaks source asked entries × (decision asked (rules_made ih.0) ≡ denied None)). inr (none_first entry entries no none.0, n.1 ∙ none.1))
              ih.2)
              (block_decides entry number asked (products [] by.cs by.ns) block.0 ih.0 block.2),
        )

-- the parts of what is built
pub record IsBuilt (source : SourceOf) (built : BuiltOf) : Type 0 where
  pub callers : List (RowOf Callers)
  pub names : List (RowOf Names)
  pub are_callers : rows_from [] source.callers ≡ Ok callers
  pub are_names : rows_from [] source.names ≡ Ok names
  pub are_rules : made_from callers names 0 [] built.entries ≡ Ok built.rules

abbrev pub whole_for : List EntryOf → List MadeOf → BuiltOf
whole_for entries rules = record { entries = entries; rules = rules }

pub built_parts : (source : SourceOf) (built : BuiltOf) → built_of source ≡ Ok built → IsBuilt source built
built_parts source built e =
    let f4 = λ (entries : List EntryOf) (rules : List MadeOf). ok (whole_for entries rules) in
    let f3 = λ (callers : List (RowOf Callers)) (names : List (RowOf Names)) (entries : List EntryOf). made_from callers names 0 [] entries >>= f4 entries in
    let f2 = λ (callers : List (RowOf Callers)) (names : List (RowOf Names)). entries_in source >>= f3 callers names in
    let f1 = λ (callers : List (RowOf Callers)). rows_from [] source.names >>= f2 callers in
    let a = bind_ok (rows_from [] source.callers) f1 built e in
    let b = bind_ok (rows_from [] source.names) (f2 a.0) built a.2 in
    let c = bind_ok (entries_in source) (f3 a.0 b.0) built b.2 in
    let d = bind_ok (made_from a.0 b.0 0 [] c.0) (f4 c.0) built c.2 in
    let whole : whole_for c.0 d.0 ≡ built = same_Ok (whole_for c.0 d.0) built d.2 in
    record {
      callers = a.0;
      names = b.0;
      are_callers = a.1;
      are_names = b.1;
      are_rules = subst (λ (x : BuiltOf). made_from a.0 b.0 0 [] x.entries ≡ Ok x.rules) whole d.1;
    }

pub built_meant : (source : SourceOf) (built : BuiltOf) → built_of source ≡ Ok built → (asked : Question) → IsMeant source asked built
built_meant source built e asked =
    let is = built_parts source built e in
    let m = meant_by source is.callers is.names is.are_callers is.are_names asked 0 [] built.entries built.rules is.are_rules in
    let same : m.0 ≡ built.rules = sym m.1 in
    ⊎_elim
    (λ (found : (i : ℕ) × (entry : EntryOf) × IsFirstEntry source asked built.entries i entry × IsDecidedFor m.0 asked (0 + i) entry).
    let d = subst (λ (l : List MadeOf). IsDecidedFor l asked (0 + found.0) found.1) same found.3 in
    inl (found.0, found.1, found.2, record { rule = d.rule; contained = d.contained; from = omega (arith, d.from); effect = d.effect; decides = d.decides }))
    (λ (none : NoneSpeaks source asked built.entries × (decision asked (rules_made m.0) ≡ denied None)). inr (none.0, subst (λ (l : List MadeOf). decision asked (rules_made l) ≡ denied None) same none.1))
    m.2

-- ---- a policy

abbrev pub made_ids : List MadeOf → List (List ℕ)
made_ids made = map (λ (rule : Rule). rule.id) (rules_made made)

-- rules that are apart: no two of one id, and none called as the closing default
pub record AreApart (made : List MadeOf) : Type 0 where
  pub distinct : IsDistinct bytes_eq (made_ids made)
  pub open' : AllByRecursion (λ (rule : Rule). rule.id ≢ codes "closing") (rules_made made)

or_left : (a b : Bool) → (a || b) ≡ false → a ≡ false
or_left true b e = absurd (false≢true (sym e))
or_left false b e = refl

or_right : (a b : Bool) → (a || b) ≡ false → b ≡ false
or_right true b e = absurd (false≢true (sym e))
or_right false b e = e

all_push : (id other : List ℕ) (made : List MadeOf) (m : MadeOf) → m.rule.id ≡ other → AllByRecursion (λ y. bytes_eq id y ≡ false) (made_ids made) → bytes_eq id other ≡ false → AllByRecursion (λ y. bytes_eq id y ≡ false) (made_ids (made ++ m ∷ []))
all_push id other [] m same all e = (ap (bytes_eq id) same ∙ e, tt)
all_push id other (x ∷ made) m same all e = (all.0, all_push id other made m same all.1 e)

distinct_push : (made : List MadeOf) (m : MadeOf) → IsDistinct bytes_eq (made_ids made) → is_taken m.rule.id made ≡ false → IsDistinct bytes_eq (made_ids (made ++ m ∷ []))
unfolding IsDistinct
distinct_push [] m d e = (tt, tt)
distinct_push (x ∷ made) m d e =
    (all_push x.rule.id m.rule.id made m refl d.0 (or_left (bytes_eq x.rule.id m.rule.id) (is_taken m.rule.id made) e), distinct_push made m d.1 (or_right (bytes_eq x.rule.id m.rule.id) (is_taken m.rule.id made) e))

open_push : (made : List MadeOf) (m : MadeOf) → AllByRecursion (λ (rule : Rule). rule.id ≢ codes "closing") (rules_made made) → m.rule.id ≢ codes "closing" → AllByRecursion (λ (rule : Rule). rule.id ≢ codes "closing") (rules_made (made ++ m ∷ []))
open_push [] m all other = (other, tt)
open_push (x ∷ made) m all other = (all.0, open_push made m all.1 other)

free_ok : (place : Place) (before : List MadeOf) (text id : List ℕ) → free_id place before text ≡ Ok id → (id ≢ codes "closing") × (is_taken id before ≡ false)
free_ok place before text id e =
    let one = cond_ok (bytes_eq text (codes "closing")) (Reserved place) (cond (is_taken text before) (Err (Repeated place)) (cond (is_identifier text) (Ok text) (Err (IdTooLong place)))) id e in
    let two = cond_ok (is_taken text before) (Repeated place) (cond (is_identifier text) (Ok text) (Err (IdTooLong place))) id one.1 in
    let same : text ≡ id = kept (is_identifier text) two.1 in
    (subst (λ (t : List ℕ). t ≢ codes "closing") same (not_from_Decides _ (bytes_eq-Decides text (codes "closing")) one.0), subst (λ (t : List ℕ). is_taken t before ≡ false) same two.0)
  where
    kept : (test : Bool) → cond test (Ok text) (Err (IdTooLong place)) ≡ Ok id → text ≡ id
    kept true f = same_Ok text id f
    kept false f = absurd (not_Err (IdTooLong place) id f)

apart_numbered : (entry : EntryOf) (number count k : ℕ) (before : List MadeOf) (ps : List PairOf) (made : List MadeOf) → AreApart before → numbered entry number count k before ps ≡ Ok made → AreApart made × (length made ≡ length before + length ps)
apart_numbered entry number count k before [] made apart e = let same : before ≡ made = same_Ok before made e in (subst AreApart same apart, (let f = ap (length {A = MadeOf}) same in omega (arith, f)))
apart_numbered entry number count k before (p ∷ ps) made apart e =
    let a = bind_ok (with_rule entry number count k before p) (λ m. numbered entry number count (k + 1) m ps) made e in
    let s = rule_step entry number count k before p a.0 a.1 in
    let free = free_ok entry.place before (made_id entry.id count k) s.0 s.1 in
    let m = made_for entry number s.0 p in
    let next : AreApart (before ++ m ∷ []) = record { distinct = distinct_push before m apart.distinct free.1; open' = open_push before m apart.open' free.0 } in
    let ih = apart_numbered entry number count (k + 1) a.0 ps made (subst AreApart (sym s.2) next) a.2 in
    let one : length a.0 ≡ length before + 1 = ap (length {A = MadeOf}) s.2 ∙ length-append before (m ∷ []) in
    (ih.0, omega (arith, ih.1, one))

module _ (source : SourceOf) (callers : List (RowOf Callers)) (names : List (RowOf Names)) (are_callers : rows_from [] source.callers ≡ Ok callers) (are_names : rows_from [] source.names ≡ Ok names) where
  apart_from : (number : ℕ) (before : List MadeOf) (entries : List EntryOf) (made : List MadeOf) → AreApart before → length before ≤ 1024 → made_from callers names number before entries ≡ Ok made → AreApart made × (length made ≤ 1024)
  apart_from number before [] made apart few e = let same : before ≡ made = same_Ok before made e in (subst AreApart same apart, subst (λ (l : List MadeOf). length l ≤ 1024) same few)
  apart_from number before (entry ∷ entries) made apart few e =
      let a = bind_ok (made_in callers names number before entry) (λ m. made_from callers names (number + 1) m entries) made e in
      let by = made_by source callers names are_callers are_names number before entry a.0 a.1 in
      let block = apart_numbered entry number (length (products [] by.cs by.ns)) 1 before (products [] by.cs by.ns) a.0 apart by.made_rules in
      let size : length a.0 ≤ 1024 = omega (arith, block.1, products_length [] by.cs by.ns, by.few) in
      apart_from (number + 1) a.0 entries made block.0 size a.2

none_apart : AreApart []
unfolding IsDistinct
none_apart = record { distinct = tt; open' = tt }

pub built_policy : (source : SourceOf) (built : BuiltOf) → built_of source ≡ Ok built → AreRules (rules_made built.rules)
built_policy source built e =
    let is = built_parts source built e in
    let apart = apart_from source is.callers is.names is.are_callers is.are_names 0 [] built.entries built.rules none_apart (omega arith) is.are_rules in
    record { few = omega (arith, length-map built.rules (λ (m : MadeOf). m.rule), apart.1); distinct = apart.0.distinct; free = apart.0.open' }
