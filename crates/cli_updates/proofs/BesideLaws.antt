-- What the operations between two zones make of a third, in which the prerequisites before them are met.
use Rattle.std.proofs.Common.{◌≡◌, ◌≢◌, ◌↔◌, ◌⊎◌, ℕ, List, [], ◌∷◌, ◌++◌, map, length, Bool, true, false, not, ◌&&◌, ◌||◌, if◌then◌else◌, Option, Some, None, inl, inr, refl, sym, ap, subst, ◌∙◌, eqb-true}
use Rattle.std.specs.Prelude.{◌==◌}
use Rattle.std.specs.List.{list_any}
use Rattle.std.specs.FinMap.{get, find}
use Rattle.std.specs.Option.{option_map}
use Rattle.std.specs.Ordering.{is_eq}
use Rattle.std.proofs.lemmas.Bool.{and_parts, false_from_ne_true, not-true}
use Rattle.dns_names.specs.Order.{same_name}
use Rattle.dns_data.specs.declared.record.Record.{Record}
use Rattle.dns_data.specs.declared.record_type.RecordType.{RecordType}
use Rattle.dns_data.specs.declared.record_type.RecordType.TheVariants as types
use Rattle.dns_data.specs.declared.rdata.Data.{Data}
use Rattle.dns_data.specs.Rdata.{type_of}
use Rattle.dns_data.specs.Text.{data_text}
use Rattle.dns_data.proofs.RecordOrderLemmas.{one_rank}
use Rattle.zone_core.specs.declared.update.Operation.{Operation}
use Rattle.zone_core.specs.Sets.{Records, Key, key_of, key_cmp, keyed, rank_of, same_key, listing, part, at_name, at, IsIn, cut, has, put, with_ttl}
use Rattle.zone_core.specs.Zones.{AreKept, is_soa, is_cname, soa_at}
use Rattle.zone_core.specs.Updates.{adds_soa}
use Rattle.zone_core.specs.Accounts.{Stands}
use Rattle.zone_core.specs.Met.{AreMet}
use Rattle.zone_core.specs.Effects.{add, add_cname, add_other, add_soa, delete_record, effects, is_misplaced, is_other_ns, is_other_type, serial_advanced, stays, takes_over}
use Rattle.zone_tools.specs.Differences.{addition, deletion, edits, gone, is_server, needs_soa, next_soa, others, operations, servers}
use Rattle.zone_core.proofs.MetLemmas.{Among}
use Rattle.zone_core.proofs.RowLemmas.{choice}
use Rattle.zone_core.proofs.SetLemmas.{by_cases, found_by_put, has_found, has_nothing, kept_by_cut, kept_by_put, key_is, key_other, key_self, name_is, name_self, some_is}
use Rattle.zone_core.proofs.EffectLemmas.{get-with_ttl, retag}
use Rattle.zone_core.proofs.ZoneLemmas.{There, Heir, Keys, at_has, at_is, both_true, found_given, found_put, found_uncut, is_kind, kind, no}
use Rattle.zone_tools.proofs.DiffListLemmas.{effects-append, left_in, retimed, some_one, there_in}
use Rattle.zone_tools.proofs.DiffLeadLemmas.{IsGone, IsOther, IsServer, are_gone, are_others, are_servers, server_off}
use Rattle.zone_tools.proofs.DiffAddLemmas.{Free}
use Rattle.zone_core.proofs.LeaveLemmas.{advanced_there}
use Rattle.cli_core.specs.declared.job.GuardScope.{GuardScope}
use Rattle.cli_updates.specs.Guards.{are_equal, changes_set, guards_of, lacks}
use Rattle.cli_updates.specs.GuardPromises.{HasThere, HaveSameSet}
use Rattle.cli_updates.proofs.GuardLaws.{among_all, guards_make_room, guards_tell, none_among, none_stands, some_stands}
use Rattle.cli_updates.proofs.OperationLaws.{gone_changes, next_is_soa, ops_are, other_changes, server_changes, soas}

-- ---- aliases

-- no SOA of another zone of the origin is at the name of an alias
pub alias_below : (origin : List (List ℕ)) (new now : Records) (n : Keys origin new) (w : Keys origin now) (r s : Record) → IsIn r new → IsIn s now
    → type_of r.rdata ≡ types.Cname → s.owner ≡ r.owner → type_of s.rdata ≢ types.Soa
alias_below origin new now n w r s here there alias owner soa =
    let home : r.owner ≡ origin = sym owner ∙ ap (λ (k : Key). k.0) (w.soa_alone (key_of s) (s, there) (ap rank_of soa)) ∙ w.soa_origin in
    let same = n.rows.cnames (key_of r) n.soa (r, here) n.soa_there (ap rank_of alias) (n.soa_origin ∙ sym home) in
    let clash : rank_of types.Cname ≡ rank_of types.Soa = sym (ap rank_of alias) ∙ ap (λ (k : Key). k.1) (sym same) ∙ n.soa_type in
    absurd cc

-- ---- lists that name keys

abbrev Named : List Record → Key → Type 0
Named rs k = (r : Record) × Among r rs × (k ≡ key_of r)

find_named : (rs : List Record) (k : Key) (d : Record) → find key_cmp k (keyed rs) ≡ Some d → Named rs k
find_named [] k d e = absurd cc
find_named (x ∷ rs) k d e =
    choice (is_eq (key_cmp k (key_of x))) x d (find key_cmp k (keyed rs)) e
    (λ t same. (x, inl refl, key_is k (key_of x) t))
    (λ t later. let found = find_named rs k d later in (found.0, inr found.1, found.2))

none_named : (rs : List Record) (k : Key) → (Named rs k → ⊥) → find key_cmp k (keyed rs) ≡ None
none_named rs k none = by_option (find key_cmp k (keyed rs)) refl
  where
    by_option : (o : Option Record) → find key_cmp k (keyed rs) ≡ o → o ≡ None
    by_option None e = refl
    by_option (Some d) e = absurd (none (find_named rs k d e))

-- ---- one addition, and one deletion

module _ (origin : List (List ℕ)) (set : Records) (r : Record) (off : is_soa (key_of r) ≡ false) (placed : is_misplaced origin r ≡ false) (free : Free set r) where
  abbrev IsWith : Records → Type 0
  IsWith after = (k : Key) → There after k ↔ (There set k ⊎ (k ≡ key_of r))

  with_ttls : IsWith (put (with_ttl set (at r.owner (type_of r.rdata)) r.ttl) r)
  with_ttls k =
      let test : Key → Bool = at r.owner (type_of r.rdata) in
      let timed : Records = with_ttl set test r.ttl in (
        λ there. (elim (found_put timed r k there.0 there.1) [
          | inl both ↦ inr both.0
          | inr was ↦ (let old = found_given set test r.ttl k there.0 was in inl (old.0, old.1))
        ]),
        λ one. by_cases (same_key k (key_of r)) (There (put timed r) k)
            (λ t. (r, ap (get (put timed r)) (key_is k (key_of r) t) ∙ found_by_put timed r))
            (λ t. (elim one [
              | inl there ↦ (
                retag test r.ttl k there.0,
                kept_by_put timed r k (λ same. no (same_key k (key_of r)) (ap (λ q. same_key q (key_of r)) same ∙ key_self (key_of r)) t)
                    ∙ get-with_ttl set test r.ttl k ∙ ap (option_map (retag test r.ttl k)) there.1,
              )
              | inr same ↦ absurd (no (same_key k (key_of r)) (ap (λ q. same_key q (key_of r)) same ∙ key_self (key_of r)) t)
            ])),
      )

  alone : is_cname (key_of r) ≡ true → IsWith (put (cut set (at_name r.owner)) r)
  alone cname k =
      let bare : Records = cut set (at_name r.owner) in (
        λ there. (elim (found_put bare r k there.0 there.1) [
          | inl both ↦ inr both.0
          | inr was ↦ inl (there.0, (found_uncut set (at_name r.owner) k there.0 was).1)
        ]),
        λ one. (elim one [
          | inl there ↦ by_cases (at_name r.owner k) (There (put bare r) k)
              (λ t. (r, ap (get (put bare r)) (free k there (name_is k.0 r.owner t) (inr cname)) ∙ found_by_put bare r))
              (λ t. (there.0, kept_by_put bare r k (λ same. no (at_name r.owner k) (ap (at_name r.owner) same ∙ name_self r.owner) t) ∙ kept_by_cut set (at_name r.owner) k t ∙ there.1))
          | inr same ↦ (r, ap (get (put bare r)) same ∙ found_by_put bare r)
        ]),
      )

  with_other : is_cname (key_of r) ≡ false → IsWith (add_other set r)
  with_other other =
      let none : has set (at r.owner types.Cname) ≡ false = has_nothing set (at r.owner types.Cname) (λ k t. by_option k t (get set k) refl) in
      subst IsWith (sym (ap (λ b. if b then set else put (with_ttl set (at r.owner (type_of r.rdata)) r.ttl) r) none)) with_ttls
    where
      by_option : (k : Key) → at r.owner types.Cname k ≡ true → (o : Option Record) → get set k ≡ o → o ≡ None
      by_option k t None e = refl
      by_option k t (Some x) e =
          let both = at_is r.owner types.Cname k t in
          let cname = kind k types.Cname both.1 in
          absurd (no (is_cname (key_of r)) (ap is_cname (sym (free k (x, e) both.0 (inl cname))) ∙ cname) other)

  with_alias : is_cname (key_of r) ≡ true → IsWith (add_cname set r)
  with_alias cname =
      let none : has set (is_other_type r.owner) ≡ false = has_nothing set (is_other_type r.owner) (λ k t. by_option k t (get set k) refl) in
      subst IsWith (sym (ap (λ b. if b then set else put (cut set (at_name r.owner)) r) none)) (alone cname)
    where
      by_option : (k : Key) → is_other_type r.owner k ≡ true → (o : Option Record) → get set k ≡ o → o ≡ None
      by_option k t None e = refl
      by_option k t (Some x) e =
          let both = and_parts (at_name r.owner k) (not (is_cname k)) t in
          absurd (no (not (is_cname k)) both.1 (ap not (ap is_cname (free k (x, e) (name_is k.0 r.owner both.0) (inr cname)) ∙ cname)))

  with_record : IsWith (add origin set r)
  with_record =
      subst IsWith (sym (ap (λ b. if b then add_soa set r else (if is_cname (key_of r) then add_cname set r else (if is_misplaced origin r then set else add_other set r))) off))
      (by_cases (is_cname (key_of r)) (IsWith (if is_cname (key_of r) then add_cname set r else (if is_misplaced origin r then set else add_other set r)))
      (λ t. subst IsWith (sym (ap (λ b. if b then add_cname set r else (if is_misplaced origin r then set else add_other set r)) t)) (with_alias t))
      (λ t. subst IsWith (sym (ap (λ b. if b then add_cname set r else (if is_misplaced origin r then set else add_other set r)) t ∙ ap (λ b. if b then set else add_other set r) placed)) (with_other t)))

module _ (origin : List (List ℕ)) (set : Records) (d : Record) (off : is_soa (key_of d) ≡ false) (ns : Key) (at_origin : is_server origin ns ≡ true) (apart : ns ≡ key_of d → ⊥) (left : is_server origin (key_of d) ≡ true → There set ns) where
  goes : stays origin set (key_of d) ≡ false
  goes = by_cases (stays origin set (key_of d)) (stays origin set (key_of d) ≡ false) (λ t. absurd (last t)) (λ t. t)
    where
      last : stays origin set (key_of d) ≡ true → ⊥
      last t =
          let both = and_parts (same_name d.owner origin) (is_soa (key_of d) || (((key_of d).1 == rank_of types.Ns) && not (has set (is_other_ns (key_of d))))) t in
          let inner : (((key_of d).1 == rank_of types.Ns) && not (has set (is_other_ns (key_of d)))) ≡ true = ap (λ b. b || (((key_of d).1 == rank_of types.Ns) && not (has set (is_other_ns (key_of d))))) (sym off) ∙ both.1 in
          let none = and_parts ((key_of d).1 == rank_of types.Ns) (not (has set (is_other_ns (key_of d)))) inner in
          let there = left (both_true (same_name d.owner origin) ((key_of d).1 == rank_of types.Ns) both.0 none.0) in
          let home = at_is origin types.Ns ns at_origin in
          let other : is_other_ns (key_of d) ns ≡ true =
          both_true (at d.owner types.Ns ns) (not (same_key (key_of d) ns)) (at_has d.owner types.Ns ns (home.0 ∙ sym (name_is d.owner origin both.0)) home.1)
          (ap not (key_other (key_of d) ns (λ e. apart (sym e)))) in
          no (not (has set (is_other_ns (key_of d)))) none.1 (ap not (has_found set (is_other_ns (key_of d)) ns there.0 other there.1))

  without_record : (k : Key) → There (delete_record origin set (key_of d)) k ↔ (There set k × (k ≡ key_of d → ⊥))
  without_record k =
      subst (λ (s : Records). There s k ↔ (There set k × (k ≡ key_of d → ⊥))) (sym (ap (λ b. if b then set else cut set (same_key (key_of d))) goes)) (
        λ there.
            let both = found_uncut set (same_key (key_of d)) k there.0 there.1 in
            ((there.0, both.1), λ same. no (same_key (key_of d) k) (ap (same_key (key_of d)) same ∙ key_self (key_of d)) both.0),
        λ both. (both.0.0, kept_by_cut set (same_key (key_of d)) k (key_other (key_of d) k (λ e. both.1 (sym e))) ∙ both.0.1),
      )

-- ---- additions, and deletions

-- a record that can be added: it is no SOA, no DS at the origin, and its key is among some keys, of which none is in its way
record Fits (origin : List (List ℕ)) (Q : Key → Type 0) (r : Record) : Type 0 where
  off : is_soa (key_of r) ≡ false
  placed : is_misplaced origin r ≡ false
  within : Q (key_of r)
  free : (k : Key) → Q k → k.0 ≡ r.owner → (is_cname k ≡ true) ⊎ (is_cname (key_of r) ≡ true) → k ≡ key_of r

all_added : (origin : List (List ℕ)) (Q : Key → Type 0) (rs : List Record) → ((r : Record) → Among r rs → Fits origin Q r) → (set : Records) → ((k : Key) → There set k → Q k)
    → (k : Key) → There (effects origin set (map addition rs)) k ↔ (There set k ⊎ Named rs k)
all_added origin Q [] fits set below k = (λ there. inl there, λ one. (elim one [ inl there ↦ there | inr named ↦ absurd named.1 ]))
all_added origin Q (r ∷ rs) fits set below k =
    let own = fits r (inl refl) in
    let one = with_record origin set r own.off own.placed (λ j there name cname. own.free j (below j there) name cname) in
    let more = all_added origin Q rs (λ x a. fits x (inr a)) (add origin set r) (λ j there. (elim ((one j).0 there) [ inl was ↦ below j was | inr same ↦ subst Q (sym same) own.within ])) k in (
      λ there. (elim (more.0 there) [
        | inl before ↦ (elim ((one k).0 before) [ inl was ↦ inl was | inr same ↦ inr (r, inl refl, same) ])
        | inr named ↦ inr (named.0, inr named.1, named.2)
      ]),
      λ either. (elim either [
        | inl was ↦ more.1 (inl ((one k).1 (inl was)))
        | inr named ↦ (elim (named.1) [ inl same ↦ more.1 (inl ((one k).1 (inr (named.2 ∙ ap key_of same)))) | inr later ↦ more.1 (inr (named.0, later, named.2)) ])
      ]),
    )

all_deleted : (origin : List (List ℕ)) (ns : Key) → is_server origin ns ≡ true → (ds : List Record) → ((d : Record) → Among d ds → (is_soa (key_of d) ≡ false) × (ns ≡ key_of d → ⊥)) → (set : Records)
    → ((d : Record) → Among d ds → is_server origin (key_of d) ≡ true → There set ns) → (k : Key) → There (effects origin set (map deletion ds)) k ↔ (There set k × (Named ds k → ⊥))
all_deleted origin ns at_origin [] plain set left k = (λ there. (there, λ named. named.1), λ both. both.0)
all_deleted origin ns at_origin (d ∷ ds) plain set left k =
    let own = plain d (inl refl) in
    let one = without_record origin set d own.0 ns at_origin own.1 (left d (inl refl)) in
    let more = all_deleted origin ns at_origin ds (λ x a. plain x (inr a)) (delete_record origin set (key_of d)) (λ x a t. (one ns).1 (left x (inr a) t, own.1)) k in (
      λ there.
          let before = more.0 there in
          let was = (one k).0 before.0 in
          (was.0, λ named. (elim (named.1) [ inl same ↦ was.1 (named.2 ∙ ap key_of same) | inr later ↦ before.1 (named.0, later, named.2) ])),
      λ both. more.1 ((one k).1 (both.0, λ same. both.1 (d, inl refl, same)), λ named. both.1 (named.0, inr named.1, named.2)),
    )

-- ---- sets by their keys

there_by : (a b : Records) → AreKept a → (r : Record) → ((d : Data) → HasThere a r d → HasThere b r d) → (k : Key) → k.0 ≡ r.owner → k.1 ≡ rank_of (type_of r.rdata) → There a k → There b k
there_by a b kept r more k owner rank there =
    let x : Record = there.0 in
    let key = (kept k x there.1).0 in
    let name : x.owner ≡ r.owner = ap (λ (q : Key). q.0) key ∙ owner in
    let has = more x.rdata (x, (ap (get a) key ∙ there.1, name, one_rank (type_of x.rdata) (type_of r.rdata) (ap (λ (q : Key). q.1) key ∙ rank)), refl) in
    let same : key_of has.0 ≡ k = (λ i. ((has.1.1 ∙ sym name) i, rank_of (type_of (has.2 i)), data_text (has.2 i))) ∙ key in
    (has.0, ap (get b) (sym same) ∙ has.1.0)

data_by : (a b : Records) → AreKept a → AreKept b → (r : Record) → ((k : Key) → k.0 ≡ r.owner → k.1 ≡ rank_of (type_of r.rdata) → There a k → There b k) → (d : Data) → HasThere a r d → HasThere b r d
data_by a b kept also r more d has =
    let s : Record = has.0 in
    let there = more (key_of s) has.1.1 (ap rank_of has.1.2) (s, has.1.0) in
    let y : Record = there.0 in
    let is = also (key_of s) y there.1 in
    let same = retimed y s is.1 (kept (key_of s) s has.1.0).1 is.0 in
    let equal : y.rdata ≡ s.rdata = ap (λ (x : Record). x.rdata) same in
    (y, (ap (get b) is.0 ∙ there.1, ap (λ (q : Key). q.0) is.0 ∙ has.1.1, ap type_of equal ∙ has.1.2), equal ∙ has.2)

both_bare : (xs ys : List Record) → (length xs == 0) ≡ true → (length ys == 0) ≡ true → are_equal xs ys ≡ true
both_bare [] [] e f = refl
both_bare [] (y ∷ ys) e f = absurd (none_among (y ∷ ys) y f (inl refl))
both_bare (x ∷ xs) ys e f = absurd (none_among (x ∷ xs) x e (inl refl))

-- ---- the operations

module _ (origin : List (List ℕ)) (old new now : Records) (z : Keys origin old) (n : Keys origin new) (w : Keys origin now) (scope : GuardScope) (met : AreMet now (guards_of scope old new (operations origin old new))) where
  abbrev ops : List Operation
  ops = operations origin old new

  -- whether the set of an owner and a type changes
  abbrev moves : List (List ℕ) → RecordType → Bool
  moves name t =
      if rank_of t == rank_of types.Soa then list_any adds_soa ops
      else not (are_equal (listing (part old (at name t))) (listing (part new (at name t))))

  abbrev is_off : RecordType → Bool
  is_off t = rank_of t == rank_of types.Soa

  -- a set that changes is in one of the two
  record Seen (name : List (List ℕ)) (t : RecordType) : Type 0 where
    one : Record
    here : IsIn one old ⊎ IsIn one new
    owner : one.owner ≡ name
    type : type_of one.rdata ≡ t

  seen : (name : List (List ℕ)) (t : RecordType) → is_off t ≡ false → moves name t ≡ true → Seen name t
  seen name t off e =
      by_cases (lacks old name t) (Seen name t)
      (λ none. by_cases (lacks new name t) (Seen name t)
      (λ bare. absurd (no (are_equal (listing (part old (at name t))) (listing (part new (at name t)))) (both_bare (listing (part old (at name t))) (listing (part new (at name t))) none bare)
      (not-true (are_equal (listing (part old (at name t))) (listing (part new (at name t))))
      (sym (ap (λ b. if b then list_any adds_soa ops else not (are_equal (listing (part old (at name t))) (listing (part new (at name t))))) off) ∙ e))))
      (λ some. let x = some_stands new n.rows.kept name t some in record { one = x.0; here = inr x.1.0; owner = x.1.1; type = x.1.2 }))
      (λ some. let x = some_stands old z.rows.kept name t some in record { one = x.0; here = inl x.1.0; owner = x.1.1; type = x.1.2 })

  told : (name : List (List ℕ)) (t : RecordType) → is_off t ≡ false → moves name t ≡ true → (k : Key) → k.0 ≡ name → k.1 ≡ rank_of t → There now k ↔ There old k
  told name t off e k owner rank =
      let x = seen name t off e in
      let same = guards_tell scope old new now ops z.rows.kept n.rows.kept met x.one x.here ((λ i. moves (x.owner i) (x.type i)) ∙ e) in
      let home : k.0 ≡ x.one.owner = owner ∙ sym x.owner in
      let kind_is : k.1 ≡ rank_of (type_of x.one.rdata) = rank ∙ ap rank_of (sym x.type) in (
        there_by now old w.rows.kept x.one (λ d. (same d).0) k home kind_is,
        there_by old now z.rows.kept x.one (λ d. (same d).1) k home kind_is,
      )

  -- ---- what the lists have

  abbrev first : List Record
  first = servers origin old new

  abbrev rest : List Record
  rest = gone old new

  abbrev last : List Record
  last = others origin old new

  is_server_of : (r : Record) → Among r first → IsServer origin old new z n r
  is_server_of r a = among_all (IsServer origin old new z n) first r (are_servers origin old new z n) a

  is_gone_of : (r : Record) → Among r rest → IsGone origin old new z n r
  is_gone_of r a = among_all (IsGone origin old new z n) rest r (are_gone origin old new z n) a

  is_other_of : (r : Record) → Among r last → IsOther origin old new z n r
  is_other_of r a = among_all (IsOther origin old new z n) last r (are_others origin old new z n) a

  other_off : (r : Record) → Among r last → is_soa (key_of r) ≡ false
  other_off r a = not-true (is_soa (key_of r)) (and_parts (not (is_soa (key_of r))) (not (is_server origin (key_of r))) (is_other_of r a).other).0

  in_new : (k : Key) → Named first k ⊎ Named last k → There new k
  in_new k one = elim one [
    | inl a ↦ (a.0, ap (get new) a.2 ∙ (is_server_of a.0 a.1).here)
    | inr a ↦ (a.0, ap (get new) a.2 ∙ (is_other_of a.0 a.1).here)
  ]

  not_gone : (k : Key) → There new k → Named rest k → ⊥
  not_gone k there a = some_is new k there.0 there.1 (ap (get new) a.2 ∙ (is_gone_of a.0 a.1).none)

  -- what they name is of sets that change
  named_moves : (r : Record) → changes_set old new ops r ≡ true → (k : Key) → k ≡ key_of r → (name : List (List ℕ)) (t : RecordType) → k.0 ≡ name → k.1 ≡ rank_of t → moves name t ≡ true
  named_moves r e k same name t owner rank =
      let home : name ≡ r.owner = sym owner ∙ ap (λ (q : Key). q.0) same in
      let kind_is : t ≡ type_of r.rdata = one_rank t (type_of r.rdata) (sym rank ∙ ap (λ (q : Key). q.1) same) in
      (λ i. moves (home i) (kind_is i)) ∙ e

  gone_moves : (k : Key) → Named rest k → (name : List (List ℕ)) (t : RecordType) → k.0 ≡ name → k.1 ≡ rank_of t → moves name t ≡ true
  gone_moves k a = named_moves a.0 (gone_changes origin old new z n a.0 a.1).1 k a.2

  -- a record of the new zone, in a set that changes
  from_new : (k : Key) → is_soa k ≡ false → There new k → (There old k → There now k) → There now k ⊎ (Named first k ⊎ Named last k)
  from_new k off there still = by_first (find key_cmp k (keyed first)) refl
    where
      by_last : find key_cmp k (keyed first) ≡ None → (o : Option Record) → find key_cmp k (keyed last) ≡ o → There now k ⊎ (Named first k ⊎ Named last k)
      by_last none (Some d) e = inr (inr (find_named last k d e))
      by_last none None e = inl (still (there.0, left_in origin old new z.rows.kept n.rows.kept k there.0 off there.1 none e))

      by_first : (o : Option Record) → find key_cmp k (keyed first) ≡ o → There now k ⊎ (Named first k ⊎ Named last k)
      by_first (Some d) e = inr (inl (find_named first k d e))
      by_first None e = by_last e (find key_cmp k (keyed last)) refl

  -- a record of the old zone that does not go
  from_old : (k : Key) → is_soa k ≡ false → There old k → (Named rest k → ⊥) → There new k
  from_old k off there stays = there_in origin old new z.rows.kept n.rows.kept k there.0 off there.1 (none_named rest k stays)

  placed : (r : Record) → IsIn r new → is_misplaced origin r ≡ false
  placed r here = by_cases (is_misplaced origin r) (is_misplaced origin r ≡ false)
      (λ t. let both = at_is origin types.Ds (key_of r) t in absurd ((n.rows.signers (key_of r) (r, here) both.1).1 both.0))
      (λ t. t)

  -- ---- the servers

  ranks_apart : (k : Key) → is_cname k ≡ true → k.1 ≡ rank_of types.Soa → ⊥
  ranks_apart k e f = let g : rank_of types.Cname ≡ rank_of types.Soa = sym (eqb-true k.1 (rank_of types.Cname) e) ∙ f in absurd cc

  server_apart : (k : Key) → is_server origin k ≡ true → is_cname k ≡ true → ⊥
  server_apart k t e = let g : rank_of types.Ns ≡ rank_of types.Cname = sym (at_is origin types.Ns k t).1 ∙ eqb-true k.1 (rank_of types.Cname) e in absurd cc

  abbrev N1 : Records
  N1 = effects origin now (map addition first)

  in1 : (k : Key) → There N1 k ↔ (There now k ⊎ Named first k)
  in1 k = all_added origin (λ j. There now j ⊎ Named first j) first fits now (λ j there. inl there) k
    where
      fits : (r : Record) → Among r first → Fits origin (λ j. There now j ⊎ Named first j) r
      fits r a =
          let is = is_server_of r a in
          record {
            off = server_off origin old new z n (key_of r) is.server;
            placed = placed r is.here;
            within = inr (r, a, refl);
            free = λ k one name cname. (elim cname [
              | inl alias ↦ (elim one [
                | inl there ↦ absurd (
                    let same = w.rows.cnames k w.soa there w.soa_there (eqb-true k.1 (rank_of types.Cname) alias) (w.soa_origin ∙ sym (at_is origin types.Ns (key_of r) is.server).0 ∙ sym name) in
                    ranks_apart k alias (ap (λ (q : Key). q.1) (sym same) ∙ w.soa_type))
                | inr named ↦ absurd (server_apart k (ap (is_server origin) named.2 ∙ (is_server_of named.0 named.1).server) alias)
              ])
              | inr alias ↦ absurd (server_apart (key_of r) is.server alias)
            ]);
          }

  -- ---- what goes

  abbrev N2 : Records
  N2 = effects origin N1 (map deletion rest)

  ns_server : is_server origin n.ns ≡ true
  ns_server = at_has origin types.Ns n.ns n.ns_origin n.ns_type

  in2 : (k : Key) → There N2 k ↔ (There N1 k × (Named rest k → ⊥))
  in2 k = all_deleted origin n.ns ns_server rest (λ d a. let is = is_gone_of d a in (is.other, λ same. some_is new n.ns n.ns_there.0 n.ns_there.1 (ap (get new) same ∙ is.none))) N1 left k
    where
      left : (d : Record) → Among d rest → is_server origin (key_of d) ≡ true → There N1 n.ns
      left d a t =
          let home = at_is origin types.Ns (key_of d) t in
          let e : moves origin types.Ns ≡ true = gone_moves (key_of d) (d, a, refl) origin types.Ns home.0 home.1 in
          (elim (from_new n.ns (server_off origin old new z n n.ns ns_server) n.ns_there (told origin types.Ns refl e n.ns n.ns_origin n.ns_type).1) [
            | inl there ↦ (in1 n.ns).1 (inl there)
            | inr named ↦ (elim named [
              | inl a ↦ (in1 n.ns).1 (inr a)
              | inr b ↦ absurd (no (not (is_server origin (key_of b.0))) (and_parts (not (is_soa (key_of b.0))) (not (is_server origin (key_of b.0))) (is_other_of b.0 b.1).other).1
                  (ap not (ap (is_server origin) (sym b.2) ∙ ns_server)))
            ])
          ])

  -- ---- the others

  -- a key of the new zone in the way of a record of it is that record's
  clash : (r : Record) → IsIn r new → (k : Key) → There new k → k.0 ≡ r.owner → (is_cname k ≡ true) ⊎ (is_cname (key_of r) ≡ true) → k ≡ key_of r
  clash r here k there name cname = elim cname [
    | inl alias ↦ sym (n.rows.cnames k (key_of r) there (r, here) (eqb-true k.1 (rank_of types.Cname) alias) (sym name))
    | inr alias ↦ n.rows.cnames (key_of r) k (r, here) there (eqb-true (key_of r).1 (rank_of types.Cname) alias) name
  ]

  -- a key of the third zone, of a set that the old zone has, that does not go
  module _ (r : Record) (a : Among r last) (x : Record) (x_in : IsIn x now) (stays : Named rest (key_of x) → ⊥) (name : x.owner ≡ r.owner) (cname : (is_cname (key_of x) ≡ true) ⊎ (is_cname (key_of r) ≡ true)) (off : is_soa (key_of x) ≡ false) where
    abbrev t : RecordType
    t = type_of x.rdata

    r_in : IsIn r new
    r_in = (other_changes origin old new z n r a).0

    r_moves : moves r.owner (type_of r.rdata) ≡ true
    r_moves = (other_changes origin old new z n r a).1

    moved : moves x.owner t ≡ true → There new (key_of x)
    moved e = from_old (key_of x) off ((told x.owner t off e (key_of x) refl refl).0 (x, x_in)) stays

    -- a set that does not change is in the new zone, and would be in the way there
    unmoved : (y : Record) → Stands old x.owner t y → moves x.owner t ≡ false → ⊥
    unmoved y stands e =
        let rank : rank_of (type_of y.rdata) ≡ rank_of t = ap rank_of stands.2 in
        let there = from_old (key_of y) (ap (λ q. q == rank_of types.Soa) rank ∙ off) (y, stands.0) (λ named. no (moves x.owner t) (gone_moves (key_of y) named x.owner t stands.1 rank) e) in
        let same = clash r r_in (key_of y) there (stands.1 ∙ name) (elim cname [ inl alias ↦ inl (ap (λ q. q == rank_of types.Cname) rank ∙ alias) | inr alias ↦ inr alias ]) in
        let type : type_of r.rdata ≡ t = one_rank (type_of r.rdata) t (ap (λ (q : Key). q.1) (sym same) ∙ rank) in
        no (moves x.owner t) ((λ i. moves (name i) (sym type i)) ∙ r_moves) e

    of_old : lacks old x.owner t ≡ false → There new (key_of x)
    of_old some =
        let y = some_stands old z.rows.kept x.owner t some in
        by_cases (moves x.owner t) (There new (key_of x)) moved (λ e. absurd (unmoved y.0 y.1 e))

    -- a set that the old zone has not is kept out by the prerequisites
    of_none : lacks old x.owner t ≡ true → ⊥
    of_none none =
        by_cases (lacks old r.owner (type_of r.rdata)) ⊥
        (λ fresh.
        let room = guards_make_room scope old new now ops z.rows.kept n.rows.kept met alone (alias_below origin new now n w) r r_in (none_stands old z.rows.kept r.owner (type_of r.rdata) fresh) in
        by_cases (is_cname (key_of r)) ⊥
        (λ alias.
        let found = room.alias (is_kind r types.Cname alias) x x_in name in
        none_stands old z.rows.kept x.owner t none found.0 (found.1.0, found.1.1 ∙ sym name, found.1.2))
        (λ other. (elim cname [
          | inl alias ↦ (
              let is = is_kind x types.Cname alias in
              room.other (λ e. no (is_cname (key_of r)) (kind (key_of r) types.Cname (ap rank_of e)) other)
              (λ s stands. none_stands old z.rows.kept x.owner t none s (stands.0, stands.1 ∙ sym name, stands.2 ∙ sym is)) x (x_in, name, is))
          | inr alias ↦ no (is_cname (key_of r)) alias other
        ])))
        (λ some.
        let y = some_stands old z.rows.kept r.owner (type_of r.rdata) some in
        let y_now = (told r.owner (type_of r.rdata) (other_off r a) r_moves (key_of y.0) y.1.1 (ap rank_of y.1.2)).1 (y.0, y.1.0) in
        let home : y.0.owner ≡ x.owner = y.1.1 ∙ sym name in
        let same : key_of y.0 ≡ key_of x = (elim cname [
          | inl alias ↦ w.rows.cnames (key_of x) (key_of y.0) (x, x_in) y_now (eqb-true (key_of x).1 (rank_of types.Cname) alias) home
          | inr alias ↦ sym (w.rows.cnames (key_of y.0) (key_of x) y_now (x, x_in) (ap rank_of y.1.2 ∙ eqb-true (key_of r).1 (rank_of types.Cname) alias) (sym home))
        ]) in
        none_stands old z.rows.kept x.owner t none y.0 (y.1.0, home, one_rank (type_of y.0.rdata) t (ap (λ (q : Key). q.1) same)))
      where
        alone : (p q : Record) → IsIn p new → IsIn q new → type_of p.rdata ≡ types.Cname → q.owner ≡ p.owner → q ≡ p
        alone p q p_in q_in type owner =
            let same = n.rows.cnames (key_of p) (key_of q) (p, p_in) (q, q_in) (ap rank_of type) owner in
            some_one q p (sym q_in ∙ ap (get new) same ∙ p_in)

    free_of : key_of x ≡ key_of r
    free_of =
        by_cases (lacks old x.owner t) (key_of x ≡ key_of r) (λ none. absurd (of_none none)) (λ some. clash r r_in (key_of x) (of_old some) name cname)

  abbrev N3 : Records
  N3 = effects origin N2 (map addition last)

  in3 : (k : Key) → There N3 k ↔ (There N2 k ⊎ Named last k)
  in3 k = all_added origin (λ j. There N2 j ⊎ Named last j) last fits N2 (λ j there. inl there) k
    where
      -- an SOA is at the origin, where the new zone has no alias
      off_soa : (r : Record) → IsIn r new → (j : Key) → There now j → j.0 ≡ r.owner → (is_cname j ≡ true) ⊎ (is_cname (key_of r) ≡ true) → is_soa j ≡ false
      off_soa r here j there name cname =
          by_cases (is_soa j) (is_soa j ≡ false)
          (λ t. absurd (elim cname [
            | inl alias ↦ ranks_apart j alias (eqb-true j.1 (rank_of types.Soa) t)
            | inr alias ↦ (
                let home : r.owner ≡ origin = sym name ∙ ap (λ (q : Key). q.0) (w.soa_alone j there (eqb-true j.1 (rank_of types.Soa) t)) ∙ w.soa_origin in
                let same = n.rows.cnames (key_of r) n.soa (r, here) n.soa_there (eqb-true (key_of r).1 (rank_of types.Cname) alias) (n.soa_origin ∙ sym home) in
                ranks_apart (key_of r) alias (ap (λ (q : Key). q.1) (sym same) ∙ n.soa_type))
          ]))
          (λ f. f)

      free_now : (r : Record) (a : Among r last) (j : Key) → There now j → (Named rest j → ⊥) → j.0 ≡ r.owner → (is_cname j ≡ true) ⊎ (is_cname (key_of r) ≡ true) → j ≡ key_of r
      free_now r a j there stays name cname =
          let x : Record = there.0 in
          let key : key_of x ≡ j = (w.rows.kept j x there.1).0 in
          let off = off_soa r (is_other_of r a).here j there name cname in
          sym key
          ∙ free_of r a x (ap (get now) key ∙ there.1) (λ named. stays (named.0, named.1, sym key ∙ named.2)) (ap (λ (q : Key). q.0) key ∙ name)
          (elim cname [ inl alias ↦ inl (ap is_cname key ∙ alias) | inr alias ↦ inr alias ]) (ap is_soa key ∙ off)

      fits : (r : Record) → Among r last → Fits origin (λ j. There N2 j ⊎ Named last j) r
      fits r a =
          let is = is_other_of r a in
          record {
            off = other_off r a;
            placed = placed r is.here;
            within = inr (r, a, refl);
            free = λ j one name cname. (elim one [
              | inl there ↦ (
                  let both = (in2 j).0 there in
                  (elim ((in1 j).0 both.0) [ inl was ↦ free_now r a j was both.1 name cname | inr named ↦ clash r is.here j (in_new j (inl named)) name cname ]))
              | inr named ↦ clash r is.here j (in_new j (inr named)) name cname
            ]);
          }

  -- ---- all edits

  edited_is : effects origin now (edits origin old new) ≡ N3
  edited_is =
      effects-append origin now (map addition first ++ map deletion rest) (map addition last)
      ∙ ap (λ (s : Records). effects origin s (map addition last)) (effects-append origin now (map addition first) (map deletion rest))

  module _ (name : List (List ℕ)) (t : RecordType) (off : is_off t ≡ false) (k : Key) (owner : k.0 ≡ name) (rank : k.1 ≡ rank_of t) where
    key_off : is_soa k ≡ false
    key_off = ap (λ q. q == rank_of types.Soa) rank ∙ off

    at_moved : moves name t ≡ true → There N3 k ↔ There new k
    at_moved e = (
      λ there. (elim ((in3 k).0 there) [
        | inl two ↦ (
            let both = (in2 k).0 two in
            (elim ((in1 k).0 both.0) [ inl was ↦ from_old k key_off ((told name t off e k owner rank).0 was) both.1 | inr named ↦ in_new k (inl named) ]))
        | inr named ↦ in_new k (inr named)
      ]),
      λ there.
          let kept : There N1 k → There N3 k = λ one. (in3 k).1 (inl ((in2 k).1 (one, not_gone k there))) in
          (elim (from_new k key_off there (told name t off e k owner rank).1) [
            | inl was ↦ kept ((in1 k).1 (inl was))
            | inr named ↦ (elim named [ inl a ↦ kept ((in1 k).1 (inr a)) | inr b ↦ (in3 k).1 (inr b) ])
          ]),
    )

    at_rest : moves name t ≡ false → There N3 k ↔ There now k
    at_rest e = (
      λ there. (elim ((in3 k).0 there) [
        | inl two ↦ (
            let both = (in2 k).0 two in
            (elim ((in1 k).0 both.0) [ inl was ↦ was | inr named ↦ absurd (stay named.0 (server_changes origin old new z n named.0 named.1).1 named.2) ]))
        | inr named ↦ absurd (stay named.0 (other_changes origin old new z n named.0 named.1).1 named.2)
      ]),
      λ there. (in3 k).1 (inl ((in2 k).1 ((in1 k).1 (inl there), λ named. no (moves name t) (gone_moves k named name t owner rank) e))),
    )
      where
        stay : (r : Record) → changes_set old new ops r ≡ true → k ≡ key_of r → ⊥
        stay r changes same = no (moves name t) (named_moves r changes k same name t owner rank) e

  -- ---- with the SOA, and its serial

  soa_rest : (set : Records) (k : Key) → is_soa k ≡ false → get (effects origin set (soas origin old new z n)) k ≡ get set k
  soa_rest set k off = by_needs (needs_soa (length (edits origin old new) == 0) z.soa_there.0 n.soa_there.0)
    where
      a : Record
      a = next_soa z.soa_there.0 n.soa_there.0

      a_soa : is_soa (key_of a) ≡ true
      a_soa = kind (key_of a) types.Soa (ap rank_of (next_is_soa origin old new z n))

      by_taken : (b : Bool) → get (if b then put (cut set (at a.owner types.Soa)) a else set) k ≡ get set k
      by_taken true =
          kept_by_put (cut set (at a.owner types.Soa)) a k (λ same. no (is_soa k) (ap is_soa same ∙ a_soa) off)
          ∙ kept_by_cut set (at a.owner types.Soa) k (false_from_ne_true (at a.owner types.Soa k) (λ t. no (is_soa k) (kind k types.Soa (at_is a.owner types.Soa k t).1) off))
      by_taken false = refl

      by_needs : (b : Bool) → get (effects origin set (if b then addition a ∷ [] else [])) k ≡ get set k
      by_needs true =
          ap (λ b. get (if b then add_soa set a else (if is_cname (key_of a) then add_cname set a else (if is_misplaced origin a then set else add_other set a))) k) a_soa
          ∙ by_taken (takes_over a (soa_at a.owner set))
      by_needs false = refl

  module _ (heir : Heir origin now w (effects origin now (operations origin old new))) where
    abbrev made : Records
    made = effects origin now ops

    abbrev after : Records
    after = serial_advanced origin now made

    made_at : (k : Key) → is_soa k ≡ false → get made k ≡ get N3 k
    made_at k off =
        ap (λ (xs : List Operation). get (effects origin now xs) k) (ops_are origin old new z n)
        ∙ ap (λ (s : Records). get s k) (effects-append origin now (edits origin old new) (soas origin old new z n))
        ∙ soa_rest (effects origin now (edits origin old new)) k off ∙ ap (λ (s : Records). get s k) edited_is

    -- of another type than SOA each set that changes is as in the new zone, and each other as it was
    module _ (r : Record) (other : type_of r.rdata ≢ types.Soa) where
      off : is_off (type_of r.rdata) ≡ false
      off = false_from_ne_true (is_off (type_of r.rdata)) (λ e. other (is_kind r types.Soa e))

      as_made : (d : Data) → HasThere after r d ↔ HasThere made r d
      as_made d =
          let same : (s : Record) → type_of s.rdata ≡ type_of r.rdata → get after (key_of s) ≡ get made (key_of s) = λ s type. advanced_there origin now made w heir s (λ e. other (sym type ∙ e)) in (
            λ has. (has.0, (sym (same has.0 has.1.2) ∙ has.1.0, has.1.1, has.1.2), has.2),
            λ has. (has.0, (same has.0 has.1.2 ∙ has.1.0, has.1.1, has.1.2), has.2),
          )

      same_as : (b : Records) → AreKept b → ((k : Key) → k.0 ≡ r.owner → k.1 ≡ rank_of (type_of r.rdata) → There N3 k ↔ There b k) → HaveSameSet after b r
      same_as b kept is d =
          let plain : (k : Key) → k.1 ≡ rank_of (type_of r.rdata) → is_soa k ≡ false = λ k rank. ap (λ q. q == rank_of types.Soa) rank ∙ off in (
            λ has. data_by made b heir.0.rows.kept kept r (λ k owner rank there. (is k owner rank).0 (there.0, sym (made_at k (plain k rank)) ∙ there.1)) d ((as_made d).0 has),
            λ has. (as_made d).1 (data_by b made kept heir.0.rows.kept r (λ k owner rank there. let found = (is k owner rank).1 there in (found.0, made_at k (plain k rank) ∙ found.1)) d has),
          )

      pub made_beside : HaveSameSet after (if changes_set old new ops r then new else now) r
      made_beside =
          by_cases (changes_set old new ops r) (HaveSameSet after (if changes_set old new ops r then new else now) r)
          (λ e. subst (λ b. HaveSameSet after (if b then new else now) r) (sym e)
          (same_as new n.rows.kept (λ k owner rank. at_moved r.owner (type_of r.rdata) off k owner rank e)))
          (λ e. subst (λ b. HaveSameSet after (if b then new else now) r) (sym e)
          (same_as now w.rows.kept (λ k owner rank. at_rest r.owner (type_of r.rdata) off k owner rank e)))
