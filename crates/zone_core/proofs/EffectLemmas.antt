-- An operation reads and changes the records at its name, and no others.
use Rattle.std.proofs.Common.{◌≡◌, ℕ, ◌+◌, ◌<◌, List, [], ◌∷◌, ◌++◌, length, take, get_or, map, Bool, true, false, cond, not, ◌&&◌, ◌||◌, ◌==◌, if◌then◌else◌, Option, Some, None, refl, sym, ap, ◌∙◌}
use Rattle.std.specs.Option.{option_map}
use Rattle.std.specs.FinMap.{get, entries, find, get-entries, get-from_entries}
use Rattle.std.proofs.lemmas.Bool.{and_parts}
use Rattle.std.proofs.lemmas.List.{take_more}
use Rattle.dns_names.specs.Order.{same_name}
use Rattle.dns_data.specs.declared.record.Record.{Record}
use Rattle.dns_data.specs.declared.record_type.RecordType.{RecordType}
use Rattle.dns_data.specs.declared.record_type.RecordType.TheVariants as types
use Rattle.dns_data.specs.Rdata.{type_of}
use Rattle.dns_data.specs.RecordOrder.{key_total}
use Rattle.zone_core.specs.declared.update.Operation.{Operation}
use Rattle.zone_core.specs.declared.update.Operation.TheVariants.{Add, DeleteRrset, DeleteName, DeleteRecord}
use Rattle.zone_core.specs.Sets.{Records, Key, key_of, key_cmp, rank_of, same_key, listing, part, cut, has, at_name, at, put, given, with_ttl}
use Rattle.zone_core.specs.Zones.{is_soa, is_cname, soa_at, first_of}
use Rattle.zone_core.specs.Updates.{acted_name}
use Rattle.zone_core.specs.Effects.{is_other_type, takes_over, add_soa, add_cname, add_other, is_misplaced, add, is_guarded, goes, key_at, is_other_ns, stays, effect, effects}
use Rattle.zone_core.proofs.SetLemmas.{name_is, name_self, name_other, key_is, get-part, get-cut, get-put, kept_by_cut, kept_by_put, same_sets, same_parts, same_has, found_in_part, key_other, by_cases}

-- ---- TTLs

abbrev pub retag : (Key → Bool) → ℕ → Key → Record → Record
retag test ttl k r = record r { ttl = if test k then ttl else r.ttl }

find-given : (test : Key → Bool) (ttl : ℕ) (k : Key) (es : List (Key × Record)) → find key_cmp k (map (given test ttl) es) ≡ option_map (retag test ttl k) (find key_cmp k es)
find-given test ttl k [] = refl
find-given test ttl k (e ∷ es) = by_test (same_key k e.0) (λ t. ap (λ q. Some (retag test ttl q e.1)) (sym (key_is k e.0 t))) (find-given test ttl k es)
  where
    by_test : (b : Bool) → (b ≡ true → Some (retag test ttl e.0 e.1) ≡ Some (retag test ttl k e.1)) → find key_cmp k (map (given test ttl) es) ≡ option_map (retag test ttl k) (find key_cmp k es)
        → cond b (Some (retag test ttl e.0 e.1)) (find key_cmp k (map (given test ttl) es)) ≡ option_map (retag test ttl k) (cond b (Some e.1) (find key_cmp k es))
    by_test true same rest = same refl
    by_test false same rest = rest

pub get-with_ttl : (a : Records) (test : Key → Bool) (ttl : ℕ) (k : Key) → get (with_ttl a test ttl) k ≡ option_map (retag test ttl k) (get a k)
get-with_ttl a test ttl k = get-from_entries key_total (map (given test ttl) (entries a)) k ∙ find-given test ttl k (entries a) ∙ ap (option_map (retag test ttl k)) (sym (get-entries a k))

pub untouched : (test : Key → Bool) (ttl : ℕ) (k : Key) (o : Option Record) → test k ≡ false → option_map (retag test ttl k) o ≡ o
untouched test ttl k None e = refl
untouched test ttl k (Some r) e = ap (λ b. Some (record r { ttl = if b then ttl else r.ttl })) e

-- ---- what an operation does not touch

either : (b : Bool) (x y z : Records) (k : Key) → get x k ≡ get z k → get y k ≡ get z k → get (if b then x else y) k ≡ get z k
either true x y z k e f = e
either false x y z k e f = f

module _ (name : List (List ℕ)) (k : Key) (away : k.0 ≡ name → ⊥) where
  off : same_name k.0 name ≡ false
  off = name_other k.0 name away

  off_at : (t : RecordType) → at name t k ≡ false
  off_at t = ap (λ b. b && (k.1 == rank_of t)) off

  put_away : (z : Records) (r : Record) → r.owner ≡ name → get (put z r) k ≡ get z k
  put_away z r e = kept_by_put z r k (λ same. away (ap (λ (q : Key). q.0) same ∙ e))

  other_away : (z : Records) (r : Record) → r.owner ≡ name → get (add_other z r) k ≡ get z k
  other_away z r e =
      either (has z (at r.owner types.Cname)) z (put (with_ttl z (at r.owner (type_of r.rdata)) r.ttl) r) z k refl
      (put_away (with_ttl z (at r.owner (type_of r.rdata)) r.ttl) r e ∙ get-with_ttl z (at r.owner (type_of r.rdata)) r.ttl k
      ∙ untouched (at r.owner (type_of r.rdata)) r.ttl k (get z k) (rw e (off_at (type_of r.rdata))))

  add_away : (origin : List (List ℕ)) (z : Records) (r : Record) → r.owner ≡ name → get (add origin z r) k ≡ get z k
  add_away origin z r e =
      either (is_soa (key_of r)) (add_soa z r) (if is_cname (key_of r) then add_cname z r else (if is_misplaced origin r then z else add_other z r)) z k
      (either (takes_over r (soa_at r.owner z)) (put (cut z (at r.owner types.Soa)) r) z z k (put_away (cut z (at r.owner types.Soa)) r e ∙ kept_by_cut z (at r.owner types.Soa) k (rw e (off_at types.Soa))) refl)
      (either (is_cname (key_of r)) (add_cname z r) (if is_misplaced origin r then z else add_other z r) z k
      (either (has z (is_other_type r.owner)) z (put (cut z (at_name r.owner)) r) z k refl (put_away (cut z (at_name r.owner)) r e ∙ kept_by_cut z (at_name r.owner) k (rw e off)))
      (either (is_misplaced origin r) z (add_other z r) z k refl (other_away z r e)))

pub effect_away : (origin : List (List ℕ)) (z : Records) (op : Operation) (k : Key) → (k.0 ≡ acted_name op → ⊥) → get (effect origin z op) k ≡ get z k
effect_away origin z (Add r) k away = add_away r.owner k away origin z r refl
effect_away origin z (DeleteRrset name t) k away = either (same_name name origin && is_guarded (rank_of t)) z (cut z (at name t)) z k refl (kept_by_cut z (at name t) k (off_at name k away t))
effect_away origin z (DeleteName name) k away =
    kept_by_cut z (goes origin name) k (ap (λ b. b && not (same_name name origin && is_guarded k.1)) (off name k away))
effect_away origin z (DeleteRecord name rdata) k away =
    either (stays origin z (key_at name rdata)) z (cut z (same_key (key_at name rdata))) z k refl
    (kept_by_cut z (same_key (key_at name rdata)) k (key_other (key_at name rdata) k (λ same. away (ap (λ (q : Key). q.0) (sym same)))))

-- ---- what it reads

-- the same is found at a name
abbrev pub SameAt : List (List ℕ) → Records → Records → Type 0
SameAt name a b = (k : Key) → k.0 ≡ name → get a k ≡ get b k

chosen_alike : (b c : Bool) (x y u v : Records) (k : Key) → b ≡ c → get x k ≡ get u k → get y k ≡ get v k → get (if b then x else y) k ≡ get (if c then u else v) k
chosen_alike true true x y u v k e f g = f
chosen_alike true false x y u v k e f g = absurd cc
chosen_alike false true x y u v k e f g = absurd cc
chosen_alike false false x y u v k e f g = g

module _ (name : List (List ℕ)) (a b : Records) (same : SameAt name a b) where
  -- a test of keys of that name finds the same
  Here : (Key → Bool) → Type 0
  Here p = (k : Key) → p k ≡ true → k.0 ≡ name

  at_is : (t : RecordType) → Here (at name t)
  unfolding Here
  at_is t k e = name_is k.0 name (and_parts (same_name k.0 name) (k.1 == rank_of t) e).0

  other_is : Here (is_other_type name)
  unfolding Here
  other_is k e = name_is k.0 name (and_parts (same_name k.0 name) (not (is_cname k)) e).0

  has_alike : (p : Key → Bool) → Here p → has a p ≡ has b p
  unfolding Here
  has_alike p here = same_has a b p (λ k e. same k (here k e))

  pub soa_alike : soa_at name a ≡ soa_at name b
  unfolding Here
  soa_alike = ap (λ (s : Records). first_of (listing s)) (same_parts a b (at name types.Soa) (λ k e. same k (at_is types.Soa k e)))

  cut_alike : (p : Key → Bool) → SameAt name (cut a p) (cut b p)
  cut_alike p k e = get-cut a p k ∙ ap (cond (p k) None) (same k e) ∙ sym (get-cut b p k)

  ttl_alike : (p : Key → Bool) (ttl : ℕ) → SameAt name (with_ttl a p ttl) (with_ttl b p ttl)
  ttl_alike p ttl k e = get-with_ttl a p ttl k ∙ ap (option_map (retag p ttl k)) (same k e) ∙ sym (get-with_ttl b p ttl k)

put_alike : (name : List (List ℕ)) (a b : Records) → SameAt name a b → (r : Record) → SameAt name (put a r) (put b r)
put_alike name a b same r k e = get-put a r k ∙ ap (cond (same_key k (key_of r)) (Some r)) (same k e) ∙ sym (get-put b r k)

add_alike : (origin : List (List ℕ)) (r : Record) (a b : Records) → SameAt r.owner a b → SameAt r.owner (add origin a r) (add origin b r)
add_alike origin r a b same k e =
    let n = r.owner in
    let cuts : (p : Key → Bool) → SameAt n (put (cut a p) r) (put (cut b p) r) = λ p. put_alike n (cut a p) (cut b p) (cut_alike n a b same p) r in
    chosen_alike (is_soa (key_of r)) (is_soa (key_of r)) (add_soa a r) _ (add_soa b r) _ k refl
    (chosen_alike (takes_over r (soa_at n a)) (takes_over r (soa_at n b)) (put (cut a (at n types.Soa)) r) a (put (cut b (at n types.Soa)) r) b k (ap (takes_over r) (soa_alike n a b same)) (cuts (at n types.Soa) k e) (same k e))
    (chosen_alike (is_cname (key_of r)) (is_cname (key_of r)) (add_cname a r) _ (add_cname b r) _ k refl
    (chosen_alike (has a (is_other_type n)) (has b (is_other_type n)) a (put (cut a (at_name n)) r) b (put (cut b (at_name n)) r) k (has_alike n a b same (is_other_type n) (other_is n a b same)) (same k e) (cuts (at_name n) k e))
    (chosen_alike (is_misplaced origin r) (is_misplaced origin r) a (add_other a r) b (add_other b r) k refl (same k e)
    (chosen_alike (has a (at n types.Cname)) (has b (at n types.Cname)) a (put (with_ttl a (at n (type_of r.rdata)) r.ttl) r) b (put (with_ttl b (at n (type_of r.rdata)) r.ttl) r) k
    (has_alike n a b same (at n types.Cname) (at_is n a b same types.Cname)) (same k e)
    (put_alike n (with_ttl a (at n (type_of r.rdata)) r.ttl) (with_ttl b (at n (type_of r.rdata)) r.ttl) (ttl_alike n a b same (at n (type_of r.rdata)) r.ttl) r k e))))

pub effect_same : (origin : List (List ℕ)) (op : Operation) (a b : Records) → SameAt (acted_name op) a b → SameAt (acted_name op) (effect origin a op) (effect origin b op)
effect_same origin (Add r) a b same k e = add_alike origin r a b same k e
effect_same origin (DeleteRrset name t) a b same k e =
    let guards = same_name name origin && is_guarded (rank_of t) in
    chosen_alike guards guards a (cut a (at name t)) b (cut b (at name t)) k refl (same k e) (cut_alike name a b same (at name t) k e)
effect_same origin (DeleteName name) a b same k e = cut_alike name a b same (goes origin name) k e
effect_same origin (DeleteRecord name rdata) a b same k e =
    let key = key_at name rdata in
    chosen_alike (stays origin a key) (stays origin b key) a (cut a (same_key key)) b (cut b (same_key key)) k
    (ap (λ h. same_name name origin && ((key.1 == rank_of types.Soa) || ((key.1 == rank_of types.Ns) && not h)))
    (same_has a b (is_other_ns key) (λ j t. same j (name_is j.0 name (and_parts (same_name j.0 name) (j.1 == rank_of types.Ns) (and_parts (at name types.Ns j) (not (same_key key j)) t).0).0))))
    (same k e) (cut_alike name a b same (same_key key) k e)

-- ---- the part at a name

pub part_same : (name : List (List ℕ)) (a : Records) → SameAt name (part a (at_name name)) a
part_same name a k e = found_in_part a (at_name name) k (rw e (name_self name))

-- the part at a name, after an operation there, is made of the part before
pub effect_part : (origin : List (List ℕ)) (op : Operation) (a : Records) → effect origin (part a (at_name (acted_name op))) op ≡ part (effect origin a op) (at_name (acted_name op))
effect_part origin op a =
    let name = acted_name op in
    let z = part a (at_name name) in
    same_sets (effect origin z op) (part (effect origin a op) (at_name name)) (λ k.
    by_cases (same_name k.0 name) (get (effect origin z op) k ≡ get (part (effect origin a op) (at_name name)) k)
    (λ e. effect_same origin op z a (part_same name a) k (name_is k.0 name e) ∙ sym (found_in_part (effect origin a op) (at_name name) k e))
    (λ e. effect_away origin z op k (λ same. let f : true ≡ false = sym (rw same (name_self name)) ∙ e in cc)
    ∙ get-part a (at_name name) k ∙ ap (λ b. cond b (get a k) None) e
    ∙ sym (get-part (effect origin a op) (at_name name) k ∙ ap (λ b. cond b (get (effect origin a op) k) None) e)))

-- and elsewhere it stays
pub part_away : (origin name : List (List ℕ)) (op : Operation) (a : Records) → (name ≡ acted_name op → ⊥) → part (effect origin a op) (at_name name) ≡ part a (at_name name)
part_away origin name op a differ =
    same_parts (effect origin a op) a (at_name name) (λ k e. effect_away origin a op k (λ same. differ (sym (name_is k.0 name e) ∙ same)))

-- ---- operations in turn

effects_push : (origin : List (List ℕ)) (a : Records) (ops : List Operation) (op : Operation) → effects origin a (ops ++ op ∷ []) ≡ effect origin (effects origin a ops) op
effects_push origin a [] op = refl
effects_push origin a (o ∷ ops) op = effects_push origin (effect origin a o) ops op

pub effects_more : (origin : List (List ℕ)) (a : Records) (ops : List Operation) (i : ℕ) (op : Operation) → i < length ops → op ≡ get_or ops i op → effects origin a (take (i + 1) ops) ≡ effect origin (effects origin a (take i ops)) op
effects_more origin a ops i op below is =
    ap (effects origin a) (take_more ops i op below ∙ ap (λ x. take i ops ++ x ∷ []) (sym is)) ∙ effects_push origin a (take i ops) op

module _ (origin name : List (List ℕ)) (before : Records) (ops : List Operation) (i : ℕ) (op : Operation) (below : i < length ops) (is : op ≡ get_or ops i op) (now : Records)
    (so_far : now ≡ part (effects origin before (take i ops)) (at_name name)) where
  so : effects origin before (take (i + 1) ops) ≡ effect origin (effects origin before (take i ops)) op
  so = effects_more origin before ops i op below is

  -- an operation at the name
  pub step_here : acted_name op ≡ name → effect origin now op ≡ part (effects origin before (take (i + 1) ops)) (at_name name)
  step_here same =
      ap (λ (s : Records). effect origin s op) (so_far ∙ ap (λ n. part (effects origin before (take i ops)) (at_name n)) (sym same))
      ∙ effect_part origin op (effects origin before (take i ops)) ∙ ap (λ n. part (effect origin (effects origin before (take i ops)) op) (at_name n)) same
      ∙ ap (λ (s : Records). part s (at_name name)) (sym so)

  -- an operation elsewhere
  pub step_away : (acted_name op ≡ name → ⊥) → now ≡ part (effects origin before (take (i + 1) ops)) (at_name name)
  step_away differ = so_far ∙ sym (part_away origin name op (effects origin before (take i ops)) (λ e. differ (sym e))) ∙ ap (λ (s : Records). part s (at_name name)) (sym so)
