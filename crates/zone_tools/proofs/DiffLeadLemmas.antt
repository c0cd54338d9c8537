-- A set on its way from one zone's records to another's, operation by operation.
use Rattle.std.proofs.Common.{◌≡◌, ℕ, List, [], ◌∷◌, ◌++◌, map, true, false, cond, not, ◌&&◌, ◌||◌, ◌==◌, if◌then◌else◌, Option, Some, None, is_some, inl, inr, refl, sym, ap, subst, ◌∙◌}
use Rattle.std.specs.List.{AllByRecursion}
use Rattle.std.specs.FinMap.{get, find}
use Rattle.std.proofs.lemmas.Bool.{and_parts, eqb-true, not-true}
use Rattle.dns_names.specs.Order.{same_name}
use Rattle.dns_data.specs.declared.record.Record.{Record}
use Rattle.dns_data.specs.declared.record_type.RecordType.TheVariants as types
use Rattle.zone_core.specs.Sets.{Records, Key, key_of, key_cmp, keyed, rank_of, same_key, IsIn, cut, has, at, minus}
use Rattle.zone_core.specs.Zones.{is_soa, is_cname}
use Rattle.zone_core.specs.Effects.{add, is_other_ns, stays, delete_record, effects}
use Rattle.zone_core.proofs.SetLemmas.{name_is, key_is, key_self, key_other, by_cases, kept_by_cut, has_found, some_is}
use Rattle.zone_core.proofs.RowLemmas.{found_has, found_key}
use Rattle.zone_core.proofs.ZoneLemmas.{There, Keys, found_uncut, at_is, at_has, both_true, no}
use Rattle.zone_tools.specs.Differences.{is_server, is_other, is_gone, addition, deletion, servers, gone, others, edits}
use Rattle.zone_tools.proofs.DiffListLemmas.{effects-append, retimed, each_listed, kept_in_minus, differs, left_in, there_in}
use Rattle.zone_tools.proofs.DiffAddLemmas.{Agree, Adds, Free, adds}

nothing : (o : Option Record) → is_some o ≡ false → o ≡ None
nothing None e = refl
nothing (Some x) e = absurd cc

-- ---- ranks

cname_not_soa : rank_of types.Cname ≡ rank_of types.Soa → ⊥
cname_not_soa e = cc

ns_not_cname : rank_of types.Ns ≡ rank_of types.Cname → ⊥
ns_not_cname e = cc

ns_not_soa : rank_of types.Ns ≡ rank_of types.Soa → ⊥
ns_not_soa e = cc

module _ (origin : List (List ℕ)) (old new : Records) (z : Keys origin old) (n : Keys origin new) where
  -- A set on the way, where these servers of the origin and these others are to be added, and these records to be deleted: what
  -- it lacks of the other set is among the former, what it has too much among the latter, and its SOA is the old one.
  record IsOnWay (set : Records) (first rest last : List Record) : Type 0 where
    agree : Agree set new
    left : (k : Key) (y : Record) → is_soa k ≡ false → get new k ≡ Some y → find key_cmp k (keyed first) ≡ None → find key_cmp k (keyed last) ≡ None → get set k ≡ Some y
    extra : (k : Key) (x : Record) → is_soa k ≡ false → get set k ≡ Some x → find key_cmp k (keyed rest) ≡ None → There new k
    soa : (k : Key) → is_soa k ≡ true → get set k ≡ get old k

  -- ---- what the lists have

  pub record IsServer (r : Record) : Type 0 where
    pub here : IsIn r new
    pub apart : IsIn r old → ⊥
    pub server : is_server origin (key_of r) ≡ true

  pub record IsOther (r : Record) : Type 0 where
    pub here : IsIn r new
    pub apart : IsIn r old → ⊥
    pub other : is_other origin (key_of r) ≡ true

  pub record IsGone (r : Record) : Type 0 where
    pub here : IsIn r old
    pub none : get new (key_of r) ≡ None
    pub other : is_soa (key_of r) ≡ false

  pub are_servers : AllByRecursion IsServer (servers origin old new)
  are_servers =
      each_listed IsServer (is_server origin) (minus new old) (kept_in_minus new old n.rows.kept)
      (λ r there t. let both = differs old new z.rows.kept n.rows.kept r there in record { here = both.0; apart = both.1; server = t })

  pub are_others : AllByRecursion IsOther (others origin old new)
  are_others =
      each_listed IsOther (is_other origin) (minus new old) (kept_in_minus new old n.rows.kept)
      (λ r there t. let both = differs old new z.rows.kept n.rows.kept r there in record { here = both.0; apart = both.1; other = t })

  pub are_gone : AllByRecursion IsGone (gone old new)
  are_gone =
      each_listed IsGone (is_gone new) (minus old new) (kept_in_minus old new z.rows.kept)
      (λ r there t.
      let both = and_parts (not (is_soa (key_of r))) (not (is_some (get new (key_of r)))) t in
      record {
        here = (differs new old n.rows.kept z.rows.kept r there).0;
        none = nothing (get new (key_of r)) (not-true (is_some (get new (key_of r))) both.1);
        other = not-true (is_soa (key_of r)) both.0;
      })

  -- ---- SOA and CNAME

  soa_key : (k : Key) → There old k → is_soa k ≡ true → k ≡ z.soa
  soa_key k there e = z.soa_alone k there (eqb-true k.1 (rank_of types.Soa) e)

  soa_of : (set : Records) (first rest last : List Record) → IsOnWay set first rest last → (k : Key) → There set k → is_soa k ≡ true → k ≡ z.soa
  soa_of set first rest last way k there e = soa_key k (there.0, sym (way.soa k e) ∙ there.1) e

  rank_apart : (k : Key) → is_cname k ≡ true → k.1 ≡ rank_of types.Soa → ⊥
  rank_apart k e f = cname_not_soa (sym (eqb-true k.1 (rank_of types.Cname) e) ∙ f)

  server_apart : (k : Key) → is_server origin k ≡ true → is_cname k ≡ true → ⊥
  server_apart k t e = ns_not_cname (sym (at_is origin types.Ns k t).1 ∙ eqb-true k.1 (rank_of types.Cname) e)

  pub server_off : (k : Key) → is_server origin k ≡ true → is_soa k ≡ false
  server_off k t = by_cases (is_soa k) (is_soa k ≡ false)
      (λ e. absurd (ns_not_soa (sym (at_is origin types.Ns k t).1 ∙ eqb-true k.1 (rank_of types.Soa) e)))
      (λ e. e)

  -- no CNAME is at the origin of a set on the way
  free_server : (set : Records) (first rest last : List Record) → IsOnWay set first rest last → AllByRecursion IsGone rest → (r : Record) → IsServer r → Free set r
  free_server set first rest last way all r is k there name one =
      (elim one [
        | inl cname ↦ absurd (by_found cname (find key_cmp k (keyed rest)) refl)
        | inr cname ↦ absurd (server_apart (key_of r) is.server cname)
      ])
    where
      home : k.0 ≡ origin
      home = name ∙ (at_is origin types.Ns (key_of r) is.server).0

      off : is_cname k ≡ true → is_soa k ≡ false
      off cname = by_cases (is_soa k) (is_soa k ≡ false) (λ e. absurd (rank_apart k cname (eqb-true k.1 (rank_of types.Soa) e))) (λ e. e)

      by_found : is_cname k ≡ true → (o : Option Record) → find key_cmp k (keyed rest) ≡ o → ⊥
      by_found cname None e =
          let same = n.rows.cnames k n.soa (way.extra k there.0 (off cname) there.1 e) n.soa_there (eqb-true k.1 (rank_of types.Cname) cname) (n.soa_origin ∙ sym home) in
          rank_apart k cname (ap (λ (q : Key). q.1) (sym same) ∙ n.soa_type)
      by_found cname (Some d) e =
          let gone = found_has IsGone rest k d all e in
          let key = found_key rest k d e in
          let same = z.rows.cnames k z.soa (d, ap (get old) key ∙ gone.here) z.soa_there (eqb-true k.1 (rank_of types.Cname) cname) (z.soa_origin ∙ sym home) in
          rank_apart k cname (ap (λ (q : Key). q.1) (sym same) ∙ z.soa_type)

  -- where nothing is left to be deleted, a CNAME is alone at its name
  free_other : (set : Records) (first last : List Record) → IsOnWay set first [] last → (r : Record) → IsOther r → Free set r
  free_other set first last way r is k there name one =
      by_cases (is_soa k) (k ≡ key_of r)
      (λ e.
      let same = soa_of set first [] last way k there e in
      let home : r.owner ≡ origin = sym name ∙ ap (λ (q : Key). q.0) same ∙ z.soa_origin in
      (elim one [
        | inl cname ↦ absurd (rank_apart k cname (eqb-true k.1 (rank_of types.Soa) e))
        | inr cname ↦ absurd (
            let both = n.rows.cnames (key_of r) n.soa (r, is.here) n.soa_there (eqb-true (key_of r).1 (rank_of types.Cname) cname) (n.soa_origin ∙ sym home) in
            rank_apart (key_of r) cname (ap (λ (q : Key). q.1) (sym both) ∙ n.soa_type))
      ]))
      (λ e.
      let also = way.extra k there.0 e there.1 refl in
      (elim one [
        | inl cname ↦ sym (n.rows.cnames k (key_of r) also (r, is.here) (eqb-true k.1 (rank_of types.Cname) cname) (sym name))
        | inr cname ↦ n.rows.cnames (key_of r) k (r, is.here) also (eqb-true (key_of r).1 (rank_of types.Cname) cname) name
      ]))

  -- ---- one addition

  step : (set after : Records) (r : Record) (first fewer_first rest last fewer_last : List Record) → IsIn r new → Adds new set after r → IsOnWay set first rest last
      → ((k : Key) → same_key k (key_of r) ≡ false → (find key_cmp k (keyed fewer_first) ≡ None → find key_cmp k (keyed first) ≡ None) × (find key_cmp k (keyed fewer_last) ≡ None → find key_cmp k (keyed last) ≡ None))
      → IsOnWay after fewer_first rest fewer_last
  step set after r first fewer_first rest last fewer_last here added way fewer =
      record {
        agree = added.agree;
        left = λ k y off is none also.
            by_cases (same_key k (key_of r)) (get after k ≡ Some y)
            (λ t. let same = key_is k (key_of r) t in ap (get after) same ∙ added.taken ∙ sym here ∙ ap (get new) (sym same) ∙ is)
            (λ t. let less = fewer k t in added.held k y is (way.left k y off is (less.0 none) (less.1 also)));
        extra = λ k x off found none. (elim (added.only k x found) [ inl there ↦ there | inr was ↦ way.extra k was.0 off was.1 none ]);
        soa = λ k e. added.soa k e ∙ way.soa k e;
      }

  later : (k : Key) (r : Record) (rs : List Record) → same_key k (key_of r) ≡ false → find key_cmp k (keyed rs) ≡ None → find key_cmp k (keyed (r ∷ rs)) ≡ None
  later k r rs t none = ap (λ b. cond b (Some r) (find key_cmp k (keyed rs))) t ∙ none

  with_servers : (set : Records) (first rest last : List Record) → AllByRecursion IsServer first → AllByRecursion IsGone rest → IsOnWay set first rest last → IsOnWay (effects origin set (map addition first)) [] rest last
  with_servers set [] rest last all gone way = way
  with_servers set (r ∷ first) rest last all gone way =
      let off = server_off (key_of r) all.0.server in
      let added = adds origin new set n way.agree r all.0.here off (free_server set (r ∷ first) rest last way gone r all.0) in
      with_servers (add origin set r) first rest last all.1 gone
      (step set (add origin set r) r (r ∷ first) first rest last last all.0.here added way (λ k t. (λ none. later k r first t none, λ none. none)))

  with_others : (set : Records) (last : List Record) → AllByRecursion IsOther last → IsOnWay set [] [] last → IsOnWay (effects origin set (map addition last)) [] [] []
  with_others set [] all way = way
  with_others set (r ∷ last) all way =
      let off = not-true (is_soa (key_of r)) (and_parts (not (is_soa (key_of r))) (not (is_server origin (key_of r))) all.0.other).0 in
      let added = adds origin new set n way.agree r all.0.here off (free_other set [] (r ∷ last) way r all.0) in
      with_others (add origin set r) last all.1
      (step set (add origin set r) r [] [] [] (r ∷ last) last all.0.here added way (λ k t. (λ none. none, λ none. later k r last t none)))

  -- ---- one deletion

  module _ (set : Records) (d : Record) (is : IsGone d) (ns : There set n.ns) where
    new_apart : (k : Key) → There new k → k ≡ key_of d → ⊥
    new_apart k there same = some_is new k there.0 there.1 (ap (get new) same ∙ is.none)

    -- it is not the last NS
    goes : stays origin set (key_of d) ≡ false
    goes = by_cases (stays origin set (key_of d)) (stays origin set (key_of d) ≡ false) (λ t. absurd (last t)) (λ t. t)
      where
        last : stays origin set (key_of d) ≡ true → ⊥
        last t =
            let both = and_parts (same_name d.owner origin) (is_soa (key_of d) || (((key_of d).1 == rank_of types.Ns) && not (has set (is_other_ns (key_of d))))) t in
            let inner : (((key_of d).1 == rank_of types.Ns) && not (has set (is_other_ns (key_of d)))) ≡ true = ap (λ b. b || (((key_of d).1 == rank_of types.Ns) && not (has set (is_other_ns (key_of d))))) (sym is.other) ∙ both.1 in
            let none = and_parts ((key_of d).1 == rank_of types.Ns) (not (has set (is_other_ns (key_of d)))) inner in
            let other : is_other_ns (key_of d) n.ns ≡ true =
            both_true (at d.owner types.Ns n.ns) (not (same_key (key_of d) n.ns)) (at_has d.owner types.Ns n.ns (n.ns_origin ∙ sym (name_is d.owner origin both.0)) n.ns_type)
            (ap not (key_other (key_of d) n.ns (λ e. new_apart n.ns n.ns_there (sym e)))) in
            no (not (has set (is_other_ns (key_of d)))) none.1 (ap not (has_found set (is_other_ns (key_of d)) n.ns ns.0 other ns.1))

    after_is : delete_record origin set (key_of d) ≡ cut set (same_key (key_of d))
    after_is = ap (λ b. if b then set else cut set (same_key (key_of d))) goes

    stay : (k : Key) → (k ≡ key_of d → ⊥) → get (delete_record origin set (key_of d)) k ≡ get set k
    stay k apart = ap (λ (s : Records). get s k) after_is ∙ kept_by_cut set (same_key (key_of d)) k (key_other (key_of d) k (λ e. apart (sym e)))

    was : (k : Key) (x : Record) → get (delete_record origin set (key_of d)) k ≡ Some x → (k ≡ key_of d → ⊥) × (get set k ≡ Some x)
    was k x e =
        let both = found_uncut set (same_key (key_of d)) k x (ap (λ (s : Records). get s k) (sym after_is) ∙ e) in
        (λ same. no (same_key (key_of d) k) (ap (same_key (key_of d)) same ∙ key_self (key_of d)) both.0, both.1)

    still : There (delete_record origin set (key_of d)) n.ns
    still = (ns.0, stay n.ns (new_apart n.ns n.ns_there) ∙ ns.1)

    deleted : (rest last : List Record) → IsOnWay set [] (d ∷ rest) last → IsOnWay (delete_record origin set (key_of d)) [] rest last
    deleted rest last way =
        record {
          agree = λ k x y found found_new. way.agree k x y (was k x found).1 found_new;
          left = λ k y off found none also. stay k (new_apart k (y, found)) ∙ way.left k y off found none also;
          extra = λ k x off found none.
              let both = was k x found in
              way.extra k x off both.1 (later k d rest (key_other k (key_of d) both.0) none);
          soa = λ k e. stay k (λ same. no (is_soa (key_of d)) (ap is_soa (sym same) ∙ e) is.other) ∙ way.soa k e;
        }

  without_gone : (set : Records) (rest last : List Record) → AllByRecursion IsGone rest → There set n.ns → IsOnWay set [] rest last → IsOnWay (effects origin set (map deletion rest)) [] [] last
  without_gone set [] last all ns way = way
  without_gone set (d ∷ rest) last all ns way =
      without_gone (delete_record origin set (key_of d)) rest last all.1 (still set d all.0 ns) (deleted set d all.0 ns rest last way)

  -- ---- all of them

  at_start : IsOnWay old (servers origin old new) (gone old new) (others origin old new)
  at_start = record {
    agree = λ k x y e f. let was = z.rows.kept k x e in let is = n.rows.kept k y f in retimed x y was.1 is.1 (was.0 ∙ sym is.0);
    left = left_in origin old new z.rows.kept n.rows.kept;
    extra = there_in origin old new z.rows.kept n.rows.kept;
    soa = λ k e. refl;
  }

  abbrev first_set : Records
  first_set = effects origin old (map addition (servers origin old new))

  first_way : IsOnWay first_set [] (gone old new) (others origin old new)
  first_way = with_servers old (servers origin old new) (gone old new) (others origin old new) are_servers are_gone at_start

  first_ns : There first_set n.ns
  first_ns = (n.ns_there.0, first_way.left n.ns n.ns_there.0 (server_off n.ns server) n.ns_there.1 refl (by_found (find key_cmp n.ns (keyed (others origin old new))) refl))
    where
      server : is_server origin n.ns ≡ true
      server = at_has origin types.Ns n.ns n.ns_origin n.ns_type

      by_found : (o : Option Record) → find key_cmp n.ns (keyed (others origin old new)) ≡ o → o ≡ None
      by_found None e = refl
      by_found (Some x) e =
          let other = found_has IsOther (others origin old new) n.ns x are_others e in
          let key = found_key (others origin old new) n.ns x e in
          absurd (no (not (is_server origin (key_of x))) (and_parts (not (is_soa (key_of x))) (not (is_server origin (key_of x))) other.other).1 (ap not (ap (is_server origin) (sym key) ∙ server)))

  abbrev edited : Records
  edited = effects origin old (edits origin old new)

  edited_is : edited ≡ effects origin (effects origin first_set (map deletion (gone old new))) (map addition (others origin old new))
  edited_is =
      effects-append origin old (map addition (servers origin old new) ++ map deletion (gone old new)) (map addition (others origin old new))
      ∙ ap (λ (s : Records). effects origin s (map addition (others origin old new))) (effects-append origin old (map addition (servers origin old new)) (map deletion (gone old new)))

  at_end : IsOnWay edited [] [] []
  at_end =
      subst (λ (s : Records). IsOnWay s [] [] []) (sym edited_is)
      (with_others (effects origin first_set (map deletion (gone old new))) (others origin old new) are_others
      (without_gone first_set (gone old new) (others origin old new) are_gone first_ns first_way))

  -- the edits make the new records, but for the SOA
  pub edited_other : (k : Key) → is_soa k ≡ false → get edited k ≡ get new k
  edited_other k off = by_options (get edited k) (get new k) refl refl
    where
      by_options : (x y : Option Record) → get edited k ≡ x → get new k ≡ y → x ≡ y
      by_options x (Some y) e f = sym e ∙ at_end.left k y off f refl refl
      by_options None None e f = refl
      by_options (Some x) None e f = absurd (let there = at_end.extra k x off e refl in some_is new k there.0 there.1 f)

  -- and leave the SOA
  pub edited_soa : (k : Key) → is_soa k ≡ true → get edited k ≡ get old k
  edited_soa k e = at_end.soa k e
