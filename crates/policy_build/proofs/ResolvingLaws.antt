-- The members of a resolved list are those that its members stand for.
use Rattle.std.proofs.Common.{◌≡◌, ◌⊎◌, ◌↔◌, inl, inr, ℕ, zero, suc, Bool, true, false, cond, List, [], ◌∷◌, ◌++◌, length, Option, Some, None, Result, Ok, Err, refl, sym, ap, ◌∙◌, subst, ⊎_elim, append_assoc, append-nil, arith}
use Rattle.std.specs.Prelude.{bytes_eq, is_some}
use Rattle.std.specs.List.{Contains}
use Rattle.std.specs.Option.{ok_or}
use Rattle.std.proofs.lemmas.Bool.{cases_Bool, false≢true}
use Rattle.std.proofs.lemmas.Slice.Eq.{bytes_eq-Decides}
use Rattle.std.proofs.lemmas.List.Elements.{Contains-append_left, Contains-append_right, Contains-append_cases}
use Rattle.policy_build.specs.declared.build_fault.BuildFault.{BuildFault}
use Rattle.policy_build.specs.declared.build_fault.BuildFault.TheVariants.{Repeated, UnknownGroup}
use Rattle.policy_build.specs.declared.member.Member.{Member}
use Rattle.policy_build.specs.declared.member.Member.TheVariants.{One, Group}
use Rattle.policy_build.specs.declared.place.FileKey.TheVariants as key
use Rattle.policy_build.specs.declared.place.Place.{Place}
use Rattle.policy_build.specs.Faults.{◌>>=◌}
use Rattle.policy_build.specs.Meaning.{StandsFor, itself, through, IsAmong}
use Rattle.policy_build.specs.Places.{at_key}
use Rattle.policy_build.specs.Resolving.{RowOf, row_called, members_at, with_member, few_members, members_from, row_in, rows_from}
use Rattle.policy_build.specs.Groups.{GroupOf}

-- ---- what is read went well

abbrev pub ok : {X : Type 0} → X → Result X BuildFault
ok x = Ok x

pub same_Ok : {X : Type 0} (a b : X) → ok a ≡ ok b → a ≡ b
same_Ok a b e = cc

pub not_Err : {X : Type 0} (e : BuildFault) (b : X) → Err e ≡ Ok b → ⊥
not_Err e b h = cc

pub bind_ok : {A B : Type 0} (r : Result A BuildFault) (f : A → Result B BuildFault) (b : B) → (r >>= f) ≡ Ok b → (a : A) × (r ≡ Ok a) × (f a ≡ Ok b)
bind_ok (Ok a) f b e = (a, refl, e)
bind_ok (Err e) f b h = absurd (not_Err e b h)

pub cond_ok : {X : Type 0} (test : Bool) (fault : BuildFault) (r : Result X BuildFault) (x : X) → cond test (Err fault) r ≡ Ok x → (test ≡ false) × (r ≡ Ok x)
cond_ok true fault r x e = absurd (not_Err fault x e)
cond_ok false fault r x e = (refl, e)

pub ok_or_ok : {X : Type 0} (o : Option X) (fault : BuildFault) (x : X) → ok_or o fault ≡ Ok x → o ≡ Some x
ok_or_ok None fault x e = absurd (not_Err fault x e)
ok_or_ok (Some y) fault x e = ap Some (same_Ok y x e)

-- ---- lists

pub first_or_later : {X : Type 0} (y : X) (ys : List X) (x : X) → Contains (y ∷ ys) x → (y ≡ x) ⊎ Contains ys x
first_or_later y ys x (zero, lt, is) = inl is
first_or_later y ys x (suc k, lt, is) = inr (k, omega arith, is)

pub first_is : {X : Type 0} (x : X) (ys : List X) → Contains (x ∷ ys) x
first_is x ys = (0, omega arith, refl)

pub later_is : {X : Type 0} (y : X) (ys : List X) (x : X) → Contains ys x → Contains (y ∷ ys) x
later_is y ys x c = (suc c.0, omega (arith, c.1), c.2)

pub none_in : {X : Type 0} (x : X) → Contains [] x → ⊥
none_in x c = absurd (omega (arith, c.1))

-- ---- members

module _ {X : Type 0} (place : Place) (rows : List (RowOf X)) where
  -- a member of the list gave it
  abbrev pub IsGiven : List (Member X) → X → Type 0
  IsGiven ms x = (m : Member X) × Contains ms m × (zs : List X) × (members_at place rows m ≡ Ok zs) × Contains zs x

  given_later : (m : Member X) (ms : List (Member X)) (x : X) → IsGiven ms x → IsGiven (m ∷ ms) x
  given_later m ms x (n, c, zs, e, is) = (n, later_is m ms n c, zs, e, is)

  step : (before : List X) (m : Member X) (ms : List (Member X)) (xs : List X) → members_from place rows before (m ∷ ms) ≡ Ok xs → (zs : List X) × (members_at place rows m ≡ Ok zs) × (members_from place rows (before ++ zs) ms ≡ Ok xs)
  step before m ms xs e =
      let a = bind_ok (with_member place rows before m) (λ more. few_members place (length more) >>= λ count. members_from place rows more ms) xs e in
      let b = bind_ok (members_at place rows m) (λ more. Ok (before ++ more)) a.0 a.1 in
      let c = bind_ok (few_members place (length a.0)) (λ count. members_from place rows a.0 ms) xs a.2 in
      (b.0, b.1, ap (λ (l : List X). members_from place rows l ms) (same_Ok (before ++ b.0) a.0 b.2) ∙ c.2)

  pub members_found : (before : List X) (ms : List (Member X)) (xs : List X) → members_from place rows before ms ≡ Ok xs → (x : X) → Contains xs x → Contains before x ⊎ IsGiven ms x
  members_found before [] xs e x c = inl (subst (λ (l : List X). Contains l x) (sym (same_Ok before xs e)) c)
  members_found before (m ∷ ms) xs e x c =
      let s = step before m ms xs e in
      ⊎_elim
      (λ (old : Contains (before ++ s.0) x).
      ⊎_elim
      (λ (h : Contains before x). inl h)
      (λ (h : Contains s.0 x). inr (m, first_is m ms, s.0, s.1, h))
      (Contains-append_cases before s.0 x old))
      (λ (new : IsGiven ms x). inr (given_later m ms x new))
      (members_found (before ++ s.0) ms xs s.2 x c)

  pub members_kept : (before : List X) (ms : List (Member X)) (xs : List X) → members_from place rows before ms ≡ Ok xs → (x : X) → Contains before x → Contains xs x
  members_kept before [] xs e x c = subst (λ (l : List X). Contains l x) (same_Ok before xs e) c
  members_kept before (m ∷ ms) xs e x c = let s = step before m ms xs e in members_kept (before ++ s.0) ms xs s.2 x (Contains-append_left before s.0 x c)

  -- each member of the list is in the rows, and what it gives is there
  pub members_there : (before : List X) (ms : List (Member X)) (xs : List X) → members_from place rows before ms ≡ Ok xs → (m : Member X) → Contains ms m → (zs : List X) × (members_at place rows m ≡ Ok zs) × ((x : X) → Contains zs x → Contains xs x)
  members_there before [] xs e m c = absurd (none_in m c)
  members_there before (n ∷ ms) xs e m c =
      let s = step before n ms xs e in
      ⊎_elim
      (λ (here : n ≡ m). (s.0, ap (members_at place rows) (sym here) ∙ s.1, λ x is. members_kept (before ++ s.0) ms xs s.2 x (Contains-append_right before s.0 x is)))
      (λ (later : Contains ms m). members_there (before ++ s.0) ms xs s.2 m later)
      (first_or_later n ms m c)

-- ---- rows

is_some-None : {Y : Type 0} (o : Option Y) → is_some o ≡ false → o ≡ None
is_some-None None e = refl
is_some-None (Some y) e = absurd (false≢true (sym e))

same_bytes : (id : List ℕ) → bytes_eq id id ≡ true
same_bytes id = (bytes_eq-Decides id id).1 refl

-- the row of a group
abbrev pub row_for : {X : Type 0} → GroupOf X → List X → RowOf X
row_for group members = record { id = group.id; members = members }

-- where no row is called so, the last one is
module _ {X : Type 0} where
  called_other : (id : List ℕ) (rows : List (RowOf X)) (row : RowOf X) (xs : List X) → row_called id rows ≡ Some xs → row_called id (rows ++ row ∷ []) ≡ Some xs
  called_other id [] row xs e = absurd (let f : None ≡ Some xs = e in cc)
  called_other id (r ∷ rows) row xs e =
      ⊎_elim
      (λ (yes' : bytes_eq r.id id ≡ true). rw yes' (sym (ap (λ b. cond b (Some r.members) (row_called id rows)) yes') ∙ e))
      (λ (no' : bytes_eq r.id id ≡ false). rw no' (called_other id rows row xs (sym (ap (λ b. cond b (Some r.members) (row_called id rows)) no') ∙ e)))
      (cases_Bool (bytes_eq r.id id))

  called_new : (rows : List (RowOf X)) (row : RowOf X) → row_called row.id rows ≡ None → row_called row.id (rows ++ row ∷ []) ≡ Some row.members
  called_new [] row e = rw (same_bytes row.id) refl
  called_new (r ∷ rows) row e =
      ⊎_elim
      (λ (yes' : bytes_eq r.id row.id ≡ true). absurd (let f : Some r.members ≡ None = sym (ap (λ b. cond b (Some r.members) (row_called row.id rows)) yes') ∙ e in cc))
      (λ (no' : bytes_eq r.id row.id ≡ false). rw no' (called_new rows row (sym (ap (λ b. cond b (Some r.members) (row_called row.id rows)) no') ∙ e)))
      (cases_Bool (bytes_eq r.id row.id))

  -- what is called so is an older row, or the last
  called_cases : (id : List ℕ) (rows : List (RowOf X)) (row : RowOf X) (xs : List X) → row_called id (rows ++ row ∷ []) ≡ Some xs → (row_called id rows ≡ Some xs) ⊎ ((row.id ≡ id) × (row.members ≡ xs))
  called_cases id [] row xs e =
      ⊎_elim
      (λ (yes' : bytes_eq row.id id ≡ true). inr ((bytes_eq-Decides row.id id).0 yes', (let f : Some row.members ≡ Some xs = sym (ap (λ b. cond b (Some row.members) None) yes') ∙ e in cc)))
      (λ (no' : bytes_eq row.id id ≡ false). absurd (let f : None ≡ Some xs = sym (ap (λ b. cond b (Some row.members) None) no') ∙ e in cc))
      (cases_Bool (bytes_eq row.id id))
  called_cases id (r ∷ rows) row xs e =
      ⊎_elim
      (λ (yes' : bytes_eq r.id id ≡ true). inl (rw yes' (sym (ap (λ b. cond b (Some r.members) (row_called id (rows ++ row ∷ []))) yes') ∙ e)))
      (λ (no' : bytes_eq r.id id ≡ false). rw no' (called_cases id rows row xs (sym (ap (λ b. cond b (Some r.members) (row_called id (rows ++ row ∷ []))) no') ∙ e)))
      (cases_Bool (bytes_eq r.id id))

  -- what a member gives, it gives after one more row
  at_more : (place : Place) (rows : List (RowOf X)) (row : RowOf X) (m : Member X) (zs : List X) → members_at place rows m ≡ Ok zs → members_at place (rows ++ row ∷ []) m ≡ Ok zs
  at_more place rows row (One x) zs e = e
  at_more place rows row (Group id) zs e = ap (λ (o : Option (List X)). ok_or o (UnknownGroup place)) (called_other id rows row zs (ok_or_ok (row_called id rows) (UnknownGroup place) zs e))

  -- what a member gives does not depend on where it is
  at_any : (place other : Place) (rows : List (RowOf X)) (m : Member X) (zs : List X) → members_at place rows m ≡ Ok zs → members_at other rows m ≡ Ok zs
  at_any place other rows (One x) zs e = e
  at_any place other rows (Group id) zs e = ap (λ (o : Option (List X)). ok_or o (UnknownGroup other)) (ok_or_ok (row_called id rows) (UnknownGroup place) zs e)

-- ---- what they stand for

module _ {X : Type 0} (all : List (GroupOf X)) (any : Place) where
  -- each row has members only that its group stands for
  abbrev pub AreSound : List (RowOf X) → Type 0
  AreSound rows = (id : List ℕ) (xs : List X) → row_called id rows ≡ Some xs → (x : X) → Contains xs x → StandsFor all x (Group id)

  -- the row of a group has all that its members give
  abbrev pub IsWhole : List (RowOf X) → GroupOf X → Type 0
  IsWhole rows group = (xs : List X) × (row_called group.id rows ≡ Some xs) × ((m : Member X) → Contains group.members m → (zs : List X) × (members_at any rows m ≡ Ok zs) × ((x : X) → Contains zs x → Contains xs x))

  abbrev pub AreWhole : List (RowOf X) → List (GroupOf X) → Type 0
  AreWhole rows groups = (group : GroupOf X) → Contains groups group → IsWhole rows group

  given_stands : (place : Place) (rows : List (RowOf X)) → AreSound rows → (m : Member X) (zs : List X) → members_at place rows m ≡ Ok zs → (x : X) → Contains zs x → StandsFor all x m
  given_stands place rows sound (One y) zs e x c =
      let whole : y ∷ [] ≡ zs = same_Ok (y ∷ []) zs e in
      ⊎_elim
      (λ (here : y ≡ x). subst (λ (z : X). StandsFor all x (One z)) (sym here) itself)
      (λ (later : Contains [] x). absurd (none_in x later))
      (first_or_later y [] x (subst (λ (l : List X). Contains l x) (sym whole) c))
  given_stands place rows sound (Group id) zs e x c = sound id zs (ok_or_ok (row_called id rows) (UnknownGroup place) zs e) x c

  sound_more : (rows : List (RowOf X)) (group : GroupOf X) (row : RowOf X) → AreSound rows → Contains all group → row_in rows group ≡ Ok row → AreSound (rows ++ row ∷ [])
  sound_more rows group row sound is e id xs called x c =
      let a = cond_ok (is_some (row_called group.id rows)) (Repeated group.place) (members_from (at_key group.place key.Members) rows [] group.members >>= λ members. Ok (row_for group members)) row e in
      let b = bind_ok (members_from (at_key group.place key.Members) rows [] group.members) (λ members. Ok (row_for group members)) row a.1 in
      let new : row_for group b.0 ≡ row = same_Ok (row_for group b.0) row b.2 in
      ⊎_elim
      (λ (old : row_called id rows ≡ Some xs). sound id xs old x c)
      (λ (last : (row.id ≡ id) × (row.members ≡ xs)).
      let same : group.id ≡ id = ap (λ (r : RowOf X). r.id) new ∙ last.0 in
      let members : b.0 ≡ xs = ap (λ (r : RowOf X). r.members) new ∙ last.1 in
      let c' : Contains b.0 x = subst (λ (l : List X). Contains l x) (sym members) c in
      ⊎_elim
      (λ (h : Contains [] x). absurd (none_in x h))
      (λ (h : IsGiven (at_key group.place key.Members) rows group.members x). subst (λ (i : List ℕ). StandsFor all x (Group i)) same (through group h.0 is h.1 (given_stands (at_key group.place key.Members) rows sound h.0 h.2 h.3 x h.4)))
      (members_found (at_key group.place key.Members) rows [] group.members b.0 b.1 x c'))
      (called_cases id rows row xs called)

  whole_later : (rows : List (RowOf X)) (row : RowOf X) (group : GroupOf X) → IsWhole rows group → IsWhole (rows ++ row ∷ []) group
  whole_later rows row group (xs, called, gives) =
      (xs, called_other group.id rows row xs called, λ m c. let g = gives m c in (g.0, at_more any rows row m g.0 g.1, g.2))

  whole_more : (rows : List (RowOf X)) (done : List (GroupOf X)) (group : GroupOf X) (row : RowOf X) → AreWhole rows done → row_in rows group ≡ Ok row → AreWhole (rows ++ row ∷ []) (done ++ group ∷ [])
  whole_more rows done group row whole e other is =
      let a = cond_ok (is_some (row_called group.id rows)) (Repeated group.place) (members_from (at_key group.place key.Members) rows [] group.members >>= λ members. Ok (row_for group members)) row e in
      let b = bind_ok (members_from (at_key group.place key.Members) rows [] group.members) (λ members. Ok (row_for group members)) row a.1 in
      let new : row_for group b.0 ≡ row = same_Ok (row_for group b.0) row b.2 in
      let fresh : row_called group.id rows ≡ None = is_some-None (row_called group.id rows) a.0 in
      let last : IsWhole (rows ++ row ∷ []) group =
      subst (λ (r : RowOf X). IsWhole (rows ++ r ∷ []) group) new (
        b.0,
        called_new rows (row_for group b.0) fresh,
        λ m c.
            let g = members_there (at_key group.place key.Members) rows [] group.members b.0 b.1 m c in
            (g.0, at_more any rows (row_for group b.0) m g.0 (at_any (at_key group.place key.Members) any rows m g.0 g.1), g.2),
      ) in
      ⊎_elim
      (λ (old : Contains done other). whole_later rows row other (whole other old))
      (λ (here : Contains (group ∷ []) other).
      ⊎_elim
      (λ (same : group ≡ other). subst (λ (g : GroupOf X). IsWhole (rows ++ row ∷ []) g) same last)
      (λ (later : Contains [] other). absurd (none_in other later))
      (first_or_later group [] other here))
      (Contains-append_cases done (group ∷ []) other is)

  -- all rows are sound and whole
  rows_are : (rows : List (RowOf X)) (done groups : List (GroupOf X)) (got : List (RowOf X)) → done ++ groups ≡ all → AreSound rows → AreWhole rows done → rows_from rows groups ≡ Ok got → AreSound got × AreWhole got all
  rows_are rows done [] got split sound whole e =
      let same : rows ≡ got = same_Ok rows got e in
      let all_done : done ≡ all = sym (append-nil done) ∙ split in
      (subst AreSound same sound, subst (λ (r : List (RowOf X)). AreWhole r all) same (subst (AreWhole rows) all_done whole))
  rows_are rows done (group ∷ groups) got split sound whole e =
      let a = bind_ok (row_in rows group) (λ row. rows_from (rows ++ row ∷ []) groups) got e in
      let is : Contains all group = subst (λ (l : List (GroupOf X)). Contains l group) split (Contains-append_right done (group ∷ groups) group (first_is group groups)) in
      rows_are (rows ++ a.0 ∷ []) (done ++ group ∷ []) groups got (append_assoc done (group ∷ []) groups ∙ split) (sound_more rows group a.0 sound is a.1) (whole_more rows done group a.0 whole a.1) a.2

  module _ (rows : List (RowOf X)) (whole : AreWhole rows all) where
    stands_given : (x : X) {m : Member X} → StandsFor all x m → (zs : List X) → members_at any rows m ≡ Ok zs → Contains zs x
    stands_given x itself zs e = subst (λ (l : List X). Contains l x) (same_Ok (x ∷ []) zs e) (first_is x [])
    stands_given x (through group member is c s) zs e =
        let w = whole group is in
        let same : w.0 ≡ zs = (let f : Some w.0 ≡ Some zs = sym w.1 ∙ ok_or_ok (row_called group.id rows) (UnknownGroup any) zs e in cc) in
        let g = w.2 member c in
        subst (λ (l : List X). Contains l x) same (g.2 x (stands_given x s g.0 g.1))

-- the members of a list are those that some member of it stands for
pub resolved : {X : Type 0} (groups : List (GroupOf X)) (rows : List (RowOf X)) → rows_from [] groups ≡ Ok rows
    → (place : Place) (ms : List (Member X)) (xs : List X) → members_from place rows [] ms ≡ Ok xs → (x : X) → Contains xs x ↔ IsAmong groups ms x
resolved {X} groups rows made place ms xs e x =
    let are = rows_are groups place [] [] groups rows refl nothing_sound nothing_whole made in (
      λ c.
          ⊎_elim
          (λ (h : Contains [] x). absurd (none_in x h))
          (λ (h : IsGiven place rows ms x). (h.0, h.1, given_stands groups place place rows are.0 h.0 h.2 h.3 x h.4))
          (members_found place rows [] ms xs e x c),
      λ (h : IsAmong groups ms x). let g = members_there place rows [] ms xs e h.0 h.1 in g.2 x (stands_given groups place rows are.1 x h.2 g.0 g.1),
    )
  where
    nothing_sound : AreSound groups place []
    nothing_sound id ys f y c = absurd (let f' : None ≡ Some ys = f in cc)

    nothing_whole : AreWhole groups place [] []
    nothing_whole group c = absurd (none_in group c)
