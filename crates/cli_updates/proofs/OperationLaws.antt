-- The operations between two zones are on sets that change, and there are prerequisites exactly where there are operations.
use Rattle.std.proofs.Common.{◌≡◌, ◌↔◌, ◌⊎◌, ℕ, List, [], ◌∷◌, ◌++◌, map, length, Bool, true, false, not, ◌&&◌, if◌then◌else◌, Some, inl, inr, refl, sym, ap, subst, ◌∙◌, eqb-true, eq-eqb}
use Rattle.std.specs.Prelude.{◌==◌, is_some}
use Rattle.std.specs.List.{Contains, list_all, list_any, zip}
use Rattle.std.specs.FinMap.{get}
use Rattle.std.proofs.lemmas.Bool.{and_parts, false_from_ne_true, not-true}
use Rattle.dns_data.specs.declared.record.Record.{Record}
use Rattle.dns_data.specs.declared.record_type.RecordType.{RecordType}
use Rattle.dns_data.specs.declared.record_type.RecordType.TheVariants as types
use Rattle.dns_data.specs.declared.rdata.Data.{Data}
use Rattle.dns_data.specs.Rdata.{type_of}
use Rattle.zone_core.specs.declared.update.Operation.{Operation}
use Rattle.zone_core.specs.declared.update.Operation.TheVariants.{Add, DeleteRecord}
use Rattle.zone_core.specs.declared.update.Prerequisite.{Prerequisite}
use Rattle.zone_core.specs.Serials.{serial_sum, is_less}
use Rattle.zone_core.specs.Sets.{Records, Key, key_of, rank_of, same_key, same_ttl, listing, at, minus, IsIn}
use Rattle.zone_core.specs.Zones.{is_soa, serial_in}
use Rattle.zone_core.specs.Updates.{adds_soa}
use Rattle.zone_core.specs.Accounts.{Stands}
use Rattle.zone_core.specs.Effects.{effects}
use Rattle.zone_core.specs.Met.{AreMet}
use Rattle.zone_tools.specs.Differences.{addition, at_serial, deletion, edits, gone, is_equal, is_gone, is_other, is_server, needs_soa, next_soa, operations, others, servers, soa_additions, with_soa_addition}
use Rattle.zone_core.proofs.MetLemmas.{Among, among_append, among_of, is_any}
use Rattle.zone_core.proofs.SetLemmas.{by_cases, found_of_part, key_is, same_parts}
use Rattle.zone_core.proofs.ZoneLemmas.{Keys, at_is, both_true, is_kind, kind, no, soa_is}
use Rattle.zone_core.proofs.ChangedLemmas.{kept_in_part}
use Rattle.zone_tools.proofs.DiffLeadLemmas.{edited_other, server_off}
use Rattle.zone_tools.proofs.DiffSoaLemmas.{data_type, is_equal_self}
use Rattle.cli_core.specs.declared.job.GuardScope.{GuardScope}
use Rattle.cli_updates.specs.Guards.{are_equal, changes_set, guards_of, is_first, is_new, set_like}
use Rattle.cli_updates.specs.GuardPromises.{HaveSameSet}
use Rattle.cli_updates.proofs.GuardLaws.{among_filter, among_map, guards_tell, is_comer, like_stands, listed_in, none_stands, parts, some_asked, stands_like}

-- ---- lists that are equal one by one

equal_right : (xs ys : List Record) → length xs ≡ length ys → list_all (λ p. is_equal p.0 p.1) (zip xs ys) ≡ true → (r : Record) → Among r ys → (x : Record) × Among x xs × (is_equal x r ≡ true)
equal_right xs [] len all r a = absurd a
equal_right [] (y ∷ ys) len all r a = absurd cc
equal_right (x ∷ xs) (y ∷ ys) len all r a =
    let both = and_parts (is_equal x y) (list_all (λ p. is_equal p.0 p.1) (zip xs ys)) all in
    let shorter : length xs ≡ length ys = cc in (elim a [
      | inl same ↦ (x, inl refl, ap (is_equal x) same ∙ both.0)
      | inr later ↦ (let found = equal_right xs ys shorter both.1 r later in (found.0, inr found.1, found.2))
    ])

equal_left : (xs ys : List Record) → length xs ≡ length ys → list_all (λ p. is_equal p.0 p.1) (zip xs ys) ≡ true → (r : Record) → Among r xs → (y : Record) × Among y ys × (is_equal r y ≡ true)
equal_left [] ys len all r a = absurd a
equal_left (x ∷ xs) [] len all r a = absurd cc
equal_left (x ∷ xs) (y ∷ ys) len all r a =
    let both = and_parts (is_equal x y) (list_all (λ p. is_equal p.0 p.1) (zip xs ys)) all in
    let shorter : length xs ≡ length ys = cc in (elim a [
      | inl same ↦ (y, inl refl, ap (λ z. is_equal z y) same ∙ both.0)
      | inr later ↦ (let found = equal_left xs ys shorter both.1 r later in (found.0, inr found.1, found.2))
    ])

are_equal_self : (rs : List Record) → are_equal rs rs ≡ true
are_equal_self rs = both_true (length rs == length rs) (list_all (λ p. is_equal p.0 p.1) (zip rs rs)) (eq-eqb (length rs) (length rs) refl) (each rs)
  where
    each : (xs : List Record) → list_all (λ p. is_equal p.0 p.1) (zip xs xs) ≡ true
    each [] = refl
    each (x ∷ xs) = both_true (is_equal x x) (list_all (λ p. is_equal p.0 p.1) (zip xs xs)) (is_equal_self x) (each xs)

module _ (origin : List (List ℕ)) (old new : Records) (z : Keys origin old) (n : Keys origin new) where
  abbrev pub ops : List Operation
  ops = operations origin old new

  -- ---- records in which the two differ

  -- of two sets that are equal, one has each record of the other with its TTL
  equal_there : (r x : Record) → IsIn r new → IsIn x old → is_equal x r ≡ true → same_ttl (get new (key_of r)) (get old (key_of r)) ≡ true
  equal_there r x here there e =
      let both = and_parts (same_key (key_of x) (key_of r)) (x.ttl == r.ttl) e in
      let found : get old (key_of r) ≡ Some x = ap (get old) (sym (key_is (key_of x) (key_of r) both.0)) ∙ there in
      (λ i. same_ttl (here i) (found i)) ∙ eq-eqb r.ttl x.ttl (sym (eqb-true x.ttl r.ttl both.1))

  equal_here : (r y : Record) → IsIn r old → IsIn y new → is_equal r y ≡ true → same_ttl (get old (key_of r)) (get new (key_of r)) ≡ true
  equal_here r y here there e =
      let both = and_parts (same_key (key_of r) (key_of y)) (r.ttl == y.ttl) e in
      let found : get new (key_of r) ≡ Some y = ap (get new) (key_is (key_of r) (key_of y) both.0) ∙ there in
      (λ i. same_ttl (here i) (found i)) ∙ both.1

  pub unequal : (r : Record) → is_soa (key_of r) ≡ false → (are_equal (set_like old r) (set_like new r) ≡ true → ⊥) → changes_set old new ops r ≡ true
  unequal r off differ =
      ap (λ b. if b then list_any adds_soa ops else not (are_equal (set_like old r) (set_like new r))) off
      ∙ ap not (false_from_ne_true (are_equal (set_like old r) (set_like new r)) differ)

  comes_changes : (r : Record) → IsIn r (minus new old) → is_soa (key_of r) ≡ false → IsIn r new × (changes_set old new ops r ≡ true)
  comes_changes r is off =
      let found = found_of_part new (λ k. not (same_ttl (get new k) (get old k))) (key_of r) r is in
      let apart = not-true (same_ttl (get new (key_of r)) (get old (key_of r))) found.0 in (
        found.1,
        unequal r off (λ e.
            let both = and_parts (length (set_like old r) == length (set_like new r)) (list_all (λ p. is_equal p.0 p.1) (zip (set_like old r) (set_like new r))) e in
            let one = equal_right (set_like old r) (set_like new r) (eqb-true (length (set_like old r)) (length (set_like new r)) both.0) both.1 r (stands_like new n.rows.kept r.owner (type_of r.rdata) r (found.1, refl, refl)) in
            no (same_ttl (get new (key_of r)) (get old (key_of r))) (equal_there r one.0 found.1 (like_stands old z.rows.kept r.owner (type_of r.rdata) one.0 one.1).0 one.2) apart),
      )

  goes_changes : (r : Record) → IsIn r (minus old new) → is_soa (key_of r) ≡ false → IsIn r old × (changes_set old new ops r ≡ true)
  goes_changes r is off =
      let found = found_of_part old (λ k. not (same_ttl (get old k) (get new k))) (key_of r) r is in
      let apart = not-true (same_ttl (get old (key_of r)) (get new (key_of r))) found.0 in (
        found.1,
        unequal r off (λ e.
            let both = and_parts (length (set_like old r) == length (set_like new r)) (list_all (λ p. is_equal p.0 p.1) (zip (set_like old r) (set_like new r))) e in
            let one = equal_left (set_like old r) (set_like new r) (eqb-true (length (set_like old r)) (length (set_like new r)) both.0) both.1 r (stands_like old z.rows.kept r.owner (type_of r.rdata) r (found.1, refl, refl)) in
            no (same_ttl (get old (key_of r)) (get new (key_of r))) (equal_here r one.0 found.1 (like_stands new n.rows.kept r.owner (type_of r.rdata) one.0 one.1).0 one.2) apart),
      )

  -- ---- operations

  -- the set that an operation is on changes
  record Touch (op : Operation) : Type 0 where
    one : Record
    here : IsIn one old ⊎ IsIn one new
    changes : changes_set old new ops one ≡ true
    on : (r : Record) → (op ≡ addition r) ⊎ (op ≡ deletion r) → (one.owner ≡ r.owner) × (type_of one.rdata ≡ type_of r.rdata)

  adds : (op : Operation) (x : Record) → addition x ≡ op → IsIn x new × (changes_set old new ops x ≡ true) → Touch op
  adds op x is both =
      record {
        one = x;
        here = inr both.0;
        changes = both.1;
        on = λ r e. (elim e [
          | inl add ↦ (let f : Add x ≡ Add r = is ∙ add in let same : x ≡ r = cc in (ap (λ (s : Record). s.owner) same, ap (λ (s : Record). type_of s.rdata) same))
          | inr del ↦ absurd (let f : Add x ≡ DeleteRecord r.owner r.rdata = is ∙ del in cc)
        ]);
      }

  deletes : (op : Operation) (x : Record) → deletion x ≡ op → IsIn x old × (changes_set old new ops x ≡ true) → Touch op
  deletes op x is both =
      record {
        one = x;
        here = inl both.0;
        changes = both.1;
        on = λ r e. (elim e [
          | inl add ↦ absurd (let f : DeleteRecord x.owner x.rdata ≡ Add r = is ∙ add in cc)
          | inr del ↦ (let f : DeleteRecord x.owner x.rdata ≡ DeleteRecord r.owner r.rdata = is ∙ del in let owner : x.owner ≡ r.owner = cc in let same : x.rdata ≡ r.rdata = cc in (owner, ap type_of same))
        ]);
      }

  come : (r : Record) → Among r (listing (minus new old)) → IsIn r (minus new old)
  come r a = listed_in (minus new old) (kept_in_part new (λ k. not (same_ttl (get new k) (get old k))) n.rows.kept) r a

  go : (r : Record) → Among r (listing (minus old new)) → IsIn r (minus old new)
  go r a = listed_in (minus old new) (kept_in_part old (λ k. not (same_ttl (get old k) (get new k))) z.rows.kept) r a

  pub server_changes : (r : Record) → Among r (servers origin old new) → IsIn r new × (changes_set old new ops r ≡ true)
  server_changes r a =
      let both = among_filter (λ x. is_server origin (key_of x)) (listing (minus new old)) r a in comes_changes r (come r both.0) (server_off origin old new z n (key_of r) both.1)

  pub other_changes : (r : Record) → Among r (others origin old new) → IsIn r new × (changes_set old new ops r ≡ true)
  other_changes r a =
      let both = among_filter (λ x. is_other origin (key_of x)) (listing (minus new old)) r a in
      comes_changes r (come r both.0) (not-true (is_soa (key_of r)) (and_parts (not (is_soa (key_of r))) (not (is_server origin (key_of r))) both.1).0)

  pub gone_changes : (r : Record) → Among r (gone old new) → IsIn r old × (changes_set old new ops r ≡ true)
  gone_changes r a =
      let both = among_filter (λ x. is_gone new (key_of x)) (listing (minus old new)) r a in
      goes_changes r (go r both.0) (not-true (is_soa (key_of r)) (and_parts (not (is_soa (key_of r))) (not (is_some (get new (key_of r)))) both.1).0)

  edit_touches : (op : Operation) → Among op (edits origin old new) → Touch op
  edit_touches op a = elim ((among_append (map addition (servers origin old new) ++ map deletion (gone old new)) (map addition (others origin old new)) op).0 a) [
    | inl front ↦ (elim ((among_append (map addition (servers origin old new)) (map deletion (gone old new)) op).0 front) [
      | inl b ↦ (let one = (among_map addition (servers origin old new) op).0 b in adds op one.0 one.2 (server_changes one.0 one.1))
      | inr b ↦ (let one = (among_map deletion (gone old new) op).0 b in deletes op one.0 one.2 (gone_changes one.0 one.1))
    ])
    | inr b ↦ (let one = (among_map addition (others origin old new) op).0 b in adds op one.0 one.2 (other_changes one.0 one.1))
  ]

  -- the SOAs
  abbrev pub s : Record
  s = z.soa_there.0

  abbrev pub m : Record
  m = n.soa_there.0

  m_in : IsIn m new
  m_in = ap (get new) (n.rows.kept n.soa m n.soa_there.1).0 ∙ n.soa_there.1

  m_soa : type_of m.rdata ≡ types.Soa
  m_soa = is_kind m types.Soa (kind (key_of m) types.Soa (ap (λ (k : Key). k.1) (n.rows.kept n.soa m n.soa_there.1).0 ∙ n.soa_type))

  next_like : (next_soa s m).owner ≡ m.owner × type_of (next_soa s m).rdata ≡ type_of m.rdata
  next_like = by (is_less (serial_in s) (serial_in m))
    where
      by : (b : Bool) → ((if b then m else at_serial (serial_sum (serial_in s) 1) m).owner ≡ m.owner) × (type_of (if b then m else at_serial (serial_sum (serial_in s) 1) m).rdata ≡ type_of m.rdata)
      by true = (refl, refl)
      by false = (refl, data_type (serial_sum (serial_in s) 1) m.rdata)

  pub next_is_soa : type_of (next_soa s m).rdata ≡ types.Soa
  next_is_soa = next_like.1 ∙ m_soa

  abbrev pub soas : List Operation
  soas = soa_additions (length (edits origin old new) == 0) s m

  pub ops_are : ops ≡ edits origin old new ++ soas
  ops_are = λ i. with_soa_addition (edits origin old new) (soa_is origin old z i) (soa_is origin new n i)

  soa_touches : (op : Operation) → Among op soas → Among op ops → Touch op
  soa_touches op a among = by (needs_soa (length (edits origin old new) == 0) s m) a
    where
      added : op ≡ Add (next_soa s m) → Touch op
      added is =
          let some : list_any adds_soa ops ≡ true = is_any adds_soa ops op among (ap adds_soa is ∙ kind (key_of (next_soa s m)) types.Soa (ap rank_of next_is_soa)) in
          record {
            one = m;
            here = inr m_in;
            changes = ap (λ b. if b then list_any adds_soa ops else not (are_equal (set_like old m) (set_like new m))) (kind (key_of m) types.Soa (ap rank_of m_soa)) ∙ some;
            on = λ r e. (elim e [
              | inl add ↦ (let f : Add (next_soa s m) ≡ Add r = sym is ∙ add in let same : next_soa s m ≡ r = cc in
                  (sym next_like.0 ∙ ap (λ (x : Record). x.owner) same, sym next_like.1 ∙ ap (λ (x : Record). type_of x.rdata) same))
              | inr del ↦ absurd (let f : Add (next_soa s m) ≡ DeleteRecord r.owner r.rdata = sym is ∙ del in cc)
            ]);
          }

      by : (b : Bool) → Among op (if b then Add (next_soa s m) ∷ [] else []) → Touch op
      by true h = (elim h [ inl is ↦ added is | inr none ↦ absurd none ])
      by false h = absurd h

  touches : (op : Operation) → Among op ops → Touch op
  touches op a = elim ((among_append (edits origin old new) soas op).0 (subst (Among op) ops_are a)) [ inl b ↦ edit_touches op b | inr b ↦ soa_touches op b a ]

  -- ---- no operations, and no prerequisites

  abbrev asked : GuardScope → List Prerequisite
  asked scope = guards_of scope old new ops

  pub none_needed : (scope : GuardScope) → asked scope ≡ [] → ops ≡ []
  none_needed scope bare = by_ops ops refl
    where
      by_ops : (xs : List Operation) → ops ≡ xs → xs ≡ []
      by_ops [] e = refl
      by_ops (op ∷ xs) e =
          let t = touches op (subst (Among op) (sym e) (inl refl)) in
          let some = some_asked scope old new ops z.rows.kept n.rows.kept t.one t.here t.changes in
          absurd (subst (Among some.0) bare some.1)

  module _ (none : ops ≡ []) where
    same_rest : (k : Key) → is_soa k ≡ false → get old k ≡ get new k
    same_rest k off =
        ap (λ (xs : List Operation). get (effects origin old xs) k) (sym (first_none (edits origin old new) soas (sym ops_are ∙ none))) ∙ edited_other origin old new z n k off
      where
        first_none : (xs ys : List Operation) → xs ++ ys ≡ [] → xs ≡ []
        first_none [] ys e = refl
        first_none (x ∷ xs) ys e = absurd cc

    -- a set of another type than SOA does not change
    same_like : (r : Record) → is_soa (key_of r) ≡ false → set_like old r ≡ set_like new r
    same_like r off =
        ap (λ (x : Records). listing x)
        (same_parts old new (at r.owner (type_of r.rdata)) (λ k t. same_rest k (ap (λ q. q == rank_of types.Soa) (at_is r.owner (type_of r.rdata) k t).1 ∙ off)))

    unchanged : (r : Record) → changes_set old new ops r ≡ true → ⊥
    unchanged r changes =
        by_cases (is_soa (key_of r)) ⊥
        (λ soa. no (list_any adds_soa ops) (sym (ap (λ b. if b then list_any adds_soa ops else not (are_equal (set_like old r) (set_like new r))) soa) ∙ changes) (ap (list_any adds_soa) none))
        (λ off. no (are_equal (set_like old r) (set_like new r)) (ap (are_equal (set_like old r)) (sym (same_like r off)) ∙ are_equal_self (set_like old r))
        (not-true (are_equal (set_like old r) (set_like new r)) (sym (ap (λ b. if b then list_any adds_soa ops else not (are_equal (set_like old r) (set_like new r))) off) ∙ changes)))

    -- and no set comes
    none_comes : (r : Record) → IsIn r new → is_new old r ≡ true → ⊥
    none_comes r here fresh =
        by_cases (is_soa (key_of r)) ⊥
        (λ soa.
        let type : type_of r.rdata ≡ types.Soa = is_kind r types.Soa soa in
        let own = z.rows.kept z.soa s z.soa_there.1 in
        let owner : s.owner ≡ r.owner = ap (λ (k : Key). k.0) own.0 ∙ z.soa_origin ∙ sym n.soa_origin ∙ ap (λ (k : Key). k.0) (sym (n.soa_alone (key_of r) (r, here) (ap rank_of type))) in
        let kind_of : type_of s.rdata ≡ type_of r.rdata = is_kind s types.Soa (kind (key_of s) types.Soa (ap (λ (k : Key). k.1) own.0 ∙ z.soa_type)) ∙ sym type in
        none_stands old z.rows.kept r.owner (type_of r.rdata) fresh s (ap (get old) own.0 ∙ z.soa_there.1, owner, kind_of))
        (λ off. none_stands old z.rows.kept r.owner (type_of r.rdata) fresh r (same_rest (key_of r) off ∙ here, refl, refl))

    pub none_asked : (scope : GuardScope) → asked scope ≡ []
    none_asked scope = by_asked (asked scope) refl
      where
        idle : (p : Prerequisite) → Among p (asked scope) → ⊥
        idle p a = elim (parts scope old new ops z.rows.kept p a) [
          | inl t ↦ unchanged t.first (and_parts (is_first old t.first) (changes_set old new ops t.first) (among_filter (λ r. is_first old r && changes_set old new ops r) (listing old) t.first t.among).1).1
          | inr f ↦ (let both = is_comer scope old new ops z.rows.kept f.first f.among in none_comes f.first (listed_in new n.rows.kept f.first both.0) both.1)
        ]

        by_asked : (ps : List Prerequisite) → asked scope ≡ ps → ps ≡ []
        by_asked [] e = refl
        by_asked (p ∷ ps) e = absurd (idle p (subst (Among p) (sym e) (inl refl)))

  -- ---- the sets of operations

  module _ (scope : GuardScope) (now : Records) (met : AreMet now (asked scope)) where
    abbrev SameAt : List (List ℕ) → RecordType → Type 0
    SameAt name t = (d : Data) → ((x : Record) × Stands now name t x × (x.rdata ≡ d)) ↔ ((x : Record) × Stands old name t x × (x.rdata ≡ d))

    by_operation : (r : Record) (op : Operation) → Among op ops → (op ≡ addition r) ⊎ (op ≡ deletion r) → HaveSameSet now old r
    by_operation r op a e =
        let t = touches op a in
        let like = t.on r e in
        subst (λ u. SameAt r.owner u) like.1 (subst (λ name. SameAt name (type_of t.one.rdata)) like.0 (guards_tell scope old new now ops z.rows.kept n.rows.kept met t.one t.here t.changes))

    pub each_tells : (r : Record) → Contains ops (addition r) ⊎ Contains ops (deletion r) → HaveSameSet now old r
    each_tells r one = elim one [
      | inl c ↦ by_operation r (addition r) (among_of ops (addition r) c) (inl refl)
      | inr c ↦ by_operation r (deletion r) (among_of ops (deletion r) c) (inr refl)
    ]
