-- What an addition makes of a set on its way to another, in which the record is.
use Rattle.std.proofs.Common.{◌≡◌, ◌⊎◌, ℕ, List, Bool, true, false, cond, not, ◌==◌, if◌then◌else◌, Option, Some, None, inl, inr, refl, sym, ap, subst, ◌∙◌}
use Rattle.std.specs.Option.{option_map}
use Rattle.std.specs.FinMap.{get}
use Rattle.std.proofs.lemmas.Bool.{and_parts, eqb-true}
use Rattle.dns_data.specs.declared.record.Record.{Record}
use Rattle.dns_data.specs.declared.record_type.RecordType.TheVariants as types
use Rattle.dns_data.specs.Rdata.{type_of}
use Rattle.zone_core.specs.Sets.{Records, Key, key_of, rank_of, same_key, IsIn, cut, has, at_name, at, put, with_ttl}
use Rattle.zone_core.specs.Zones.{is_soa, is_cname}
use Rattle.zone_core.specs.Effects.{is_other_type, add_soa, add_cname, add_other, is_misplaced, add}
use Rattle.zone_core.proofs.SetLemmas.{name_is, name_self, key_is, by_cases, get-put, found_by_put, kept_by_put, kept_by_cut, gone_by_cut, has_nothing}
use Rattle.zone_core.proofs.EffectLemmas.{retag, get-with_ttl, untouched}
use Rattle.zone_core.proofs.ZoneLemmas.{There, Keys, found_uncut, found_put, found_given, at_is, kind, no}
use Rattle.zone_tools.proofs.DiffListLemmas.{some_one}

-- sets agree: what is found under one key in both differs in its TTL at most
abbrev pub Agree : Records → Records → Type 0
Agree set new = (k : Key) (x y : Record) → get set k ≡ Some x → get new k ≡ Some y → record x { ttl = y.ttl } ≡ y

-- A set after a record was added on its way to another: the record is in it, and what was there as in the other still is; but for
-- these nothing came.
pub record Adds (new before after : Records) (r : Record) : Type 0 where
  pub taken : get after (key_of r) ≡ Some r
  pub held : (k : Key) (y : Record) → get new k ≡ Some y → get before k ≡ Some y → get after k ≡ Some y
  pub agree : Agree after new
  pub only : (k : Key) (x : Record) → get after k ≡ Some x → There new k ⊎ There before k
  pub soa : (k : Key) → is_soa k ≡ true → get after k ≡ get before k

-- a CNAME is alone at the name of a record, whichever of the two it is
abbrev pub Free : Records → Record → Type 0
Free set r = (k : Key) → There set k → k.0 ≡ r.owner → (is_cname k ≡ true) ⊎ (is_cname (key_of r) ≡ true) → k ≡ key_of r

module _ (origin : List (List ℕ)) (new set : Records) (n : Keys origin new) (agree : Agree set new) (r : Record) (here : IsIn r new) (off : is_soa (key_of r) ≡ false) (free : Free set r) where
  same_found : (k : Key) (y : Record) → k ≡ key_of r → get new k ≡ Some y → y ≡ r
  same_found k y same is = some_one y r (sym is ∙ ap (get new) same ∙ here)

  agree_same : (k : Key) (x y : Record) → k ≡ key_of r → x ≡ r → get new k ≡ Some y → record x { ttl = y.ttl } ≡ y
  agree_same k x y same is found =
      let also = same_found k y same found in
      (λ i. record (is i) { ttl = (also i).ttl }) ∙ sym also

  not_soa : (k : Key) → is_soa k ≡ true → k ≡ key_of r → ⊥
  not_soa k e same = no (is_soa (key_of r)) (ap is_soa (sym same) ∙ e) off

  -- ---- another type than CNAME

  abbrev in_set : Key → Bool
  in_set = at r.owner (type_of r.rdata)

  abbrev retimed : Records
  retimed = with_ttl set in_set r.ttl

  own_ttl : (k : Key) (y : Record) → get new k ≡ Some y → retag in_set r.ttl k y ≡ y
  own_ttl k y is =
      by_cases (in_set k) (retag in_set r.ttl k y ≡ y)
      (λ t.
      let both = at_is r.owner (type_of r.rdata) k t in
      let ttl : y.ttl ≡ r.ttl = n.rows.ttls (key_of r) k r y here is both.0 both.1 in
      ap (λ b. record y { ttl = if b then r.ttl else y.ttl }) t ∙ ap (λ m. record y { ttl = m }) (sym ttl))
      (λ t. ap (λ b. record y { ttl = if b then r.ttl else y.ttl }) t)

  adds_retimed : Adds new set (put retimed r) r
  adds_retimed = record {
    taken = found_by_put retimed r;
    held = λ k y is there.
        by_cases (same_key k (key_of r)) (get (put retimed r) k ≡ Some y)
        (λ t. let same = key_is k (key_of r) t in ap (get (put retimed r)) same ∙ found_by_put retimed r ∙ ap (λ (v : Record). Some v) (sym (same_found k y same is)))
        (λ t. get-put retimed r k ∙ ap (λ b. cond b (Some r) (get retimed k)) t ∙ get-with_ttl set in_set r.ttl k
        ∙ ap (option_map (retag in_set r.ttl k)) there ∙ ap (λ (v : Record). Some v) (own_ttl k y is));
    agree = λ k x y found is. (elim (found_put retimed r k x found) [
      | inl both ↦ agree_same k x y both.0 both.1 is
      | inr was ↦
          let old = found_given set in_set r.ttl k x was in
          ap (λ (v : Record). record v { ttl = y.ttl }) (sym old.2) ∙ agree k old.0 y old.1 is
    ]);
    only = λ k x found. (elim (found_put retimed r k x found) [
      | inl both ↦ inl (r, ap (get new) both.0 ∙ here)
      | inr was ↦ let old = found_given set in_set r.ttl k x was in inr (old.0, old.1)
    ]);
    soa = λ k e.
        kept_by_put retimed r k (not_soa k e) ∙ get-with_ttl set in_set r.ttl k
        ∙ untouched in_set r.ttl k (get set k) (by_cases (in_set k) (in_set k ≡ false)
        (λ t. absurd (let type = (at_is r.owner (type_of r.rdata) k t).1 in no (is_soa (key_of r)) (ap (λ rank. rank == rank_of types.Soa) (sym type) ∙ e) off))
        (λ t. t));
  }

  adds_other : is_cname (key_of r) ≡ false → Adds new set (add_other set r) r
  adds_other other =
      let none : has set (at r.owner types.Cname) ≡ false =
      has_nothing set (at r.owner types.Cname) (λ k t. by_option k t (get set k) refl) in
      subst (λ (s : Records). Adds new set s r) (sym (ap (λ b. if b then set else put retimed r) none)) adds_retimed
    where
      by_option : (k : Key) → at r.owner types.Cname k ≡ true → (o : Option Record) → get set k ≡ o → o ≡ None
      by_option k t None e = refl
      by_option k t (Some x) e =
          let both = at_is r.owner types.Cname k t in
          let cname = kind k types.Cname both.1 in
          absurd (no (is_cname (key_of r)) (ap is_cname (sym (free k (x, e) both.0 (inl cname))) ∙ cname) other)

  -- ---- a CNAME

  module _ (alone : is_cname (key_of r) ≡ true) where
    abbrev bare : Records
    bare = cut set (at_name r.owner)

    one_there : (k : Key) → There new k → at_name r.owner k ≡ true → k ≡ key_of r
    one_there k there t = n.rows.cnames (key_of r) k (r, here) there (eqb-true (key_of r).1 (rank_of types.Cname) alone) (name_is k.0 r.owner t)

    at_own : (k : Key) → k ≡ key_of r → at_name r.owner k ≡ true
    at_own k same = ap (at_name r.owner) same ∙ name_self r.owner

    adds_alone : Adds new set (put bare r) r
    adds_alone = record {
      taken = found_by_put bare r;
      held = λ k y is there.
          by_cases (at_name r.owner k) (get (put bare r) k ≡ Some y)
          (λ t. let same = one_there k (y, is) t in ap (get (put bare r)) same ∙ found_by_put bare r ∙ ap (λ (v : Record). Some v) (sym (same_found k y same is)))
          (λ t. kept_by_put bare r k (λ same. no (at_name r.owner k) (at_own k same) t) ∙ kept_by_cut set (at_name r.owner) k t ∙ there);
      agree = λ k x y found is. (elim (found_put bare r k x found) [
        | inl both ↦ agree_same k x y both.0 both.1 is
        | inr was ↦ agree k x y (found_uncut set (at_name r.owner) k x was).1 is
      ]);
      only = λ k x found. (elim (found_put bare r k x found) [
        | inl both ↦ inl (r, ap (get new) both.0 ∙ here)
        | inr was ↦ inr (x, (found_uncut set (at_name r.owner) k x was).1)
      ]);
      soa = λ k e.
          kept_by_put bare r k (not_soa k e) ∙ by_cases (at_name r.owner k) (get bare k ≡ get set k)
          (λ t. gone_by_cut set (at_name r.owner) k t ∙ sym (none_there k e t (get set k) refl))
          (λ t. kept_by_cut set (at_name r.owner) k t);
    }
      where
        none_there : (k : Key) → is_soa k ≡ true → at_name r.owner k ≡ true → (o : Option Record) → get set k ≡ o → get set k ≡ None
        none_there k e t None f = f
        none_there k e t (Some x) f = absurd (not_soa k e (free k (x, f) (name_is k.0 r.owner t) (inr alone)))

    adds_cname : Adds new set (add_cname set r) r
    adds_cname =
        let none : has set (is_other_type r.owner) ≡ false =
        has_nothing set (is_other_type r.owner) (λ k t. by_option k t (get set k) refl) in
        subst (λ (s : Records). Adds new set s r) (sym (ap (λ b. if b then set else put bare r) none)) adds_alone
      where
        by_option : (k : Key) → is_other_type r.owner k ≡ true → (o : Option Record) → get set k ≡ o → o ≡ None
        by_option k t None e = refl
        by_option k t (Some x) e =
            let both = and_parts (at_name r.owner k) (not (is_cname k)) t in
            absurd (no (not (is_cname k)) both.1 (ap not (ap is_cname (free k (x, e) (name_is k.0 r.owner both.0) (inr alone)) ∙ alone)))

  -- ---- any

  placed : is_misplaced origin r ≡ false
  placed = by_cases (is_misplaced origin r) (is_misplaced origin r ≡ false)
      (λ t.
      let both = at_is origin types.Ds (key_of r) t in
      absurd ((n.rows.signers (key_of r) (r, here) both.1).1 both.0))
      (λ t. t)

  pub adds : Adds new set (add origin set r) r
  adds =
      subst (λ (s : Records). Adds new set s r) (sym (ap (λ b. if b then add_soa set r else (if is_cname (key_of r) then add_cname set r else (if is_misplaced origin r then set else add_other set r))) off))
      (by_cases (is_cname (key_of r)) (Adds new set (if is_cname (key_of r) then add_cname set r else (if is_misplaced origin r then set else add_other set r)) r)
      (λ t. subst (λ (s : Records). Adds new set s r) (sym (ap (λ b. if b then add_cname set r else (if is_misplaced origin r then set else add_other set r)) t)) (adds_cname t))
      (λ t. subst (λ (s : Records). Adds new set s r) (sym (ap (λ b. if b then add_cname set r else (if is_misplaced origin r then set else add_other set r)) t
      ∙ ap (λ b. if b then set else add_other set r) placed)) (adds_other t)))
