-- Bookmarks are right before and after a request, and the changes after one are those that the caller has not seen.
use Rattle.std.proofs.Common.{◌≡◌, ◌⊎◌, ℕ, suc, ◌+◌, ◌<◌, ◌≤◌, List, [], ◌∷◌, ◌++◌, length, get_or, take, drop, Bool, true, false, cond, not, nat_le, bytes_eq, Option, Some, None, IfSome, inl, inr, ⊎_elim, refl, sym, ap, subst, ◌∙◌, arith, append-nil, length-append, length-drop, option_map, if◌then◌else◌}
use Rattle.std.specs.List.{All, filter}
use Rattle.std.proofs.lemmas.Bool.{and_parts, lt-leb}
use Rattle.std.proofs.lemmas.Grind.{flat_map-append}
use Rattle.std.proofs.lemmas.List.{take-append-drop, take-append-le, take_all}
use Rattle.std.proofs.lemmas.List.Elements.{All-filter, All-push, All-weaker, filter-append}
use Rattle.std.proofs.lemmas.Slice.Eq.{bytes_eq-Decides}
use Rattle.dns_names.specs.Order.{same_name}
use Rattle.dns_names.proofs.NameLemmas.{same_name-Decides}
use Rattle.grant_policy.specs.declared.rule.Rule.{Rule}
use Rattle.zone_core.specs.Changes.{ChangeOf, change_between}
use Rattle.zone_core.specs.Sets.{Records, is_same}
use Rattle.zone_core.specs.Updates.{UpdateOf}
use Rattle.office_model.specs.declared.receipt.Receipt.{Receipt}
use Rattle.office_model.specs.declared.reply.UpdateReply.{UpdateReply}
use Rattle.office_model.specs.declared.reply.Reply.{Reply}
use Rattle.office_model.specs.declared.reply.Reply.TheVariants as replies
use Rattle.office_model.specs.declared.request.Request.{Request}
use Rattle.office_model.specs.declared.request.Request.TheVariants as requests
use Rattle.office_model.specs.States.{Held, State, changes_at, hold}
use Rattle.office_model.specs.Replies.{NumberedOf, changes, reply_of}
use Rattle.office_core.specs.declared.bookmark.Bookmark.{Bookmark}
use Rattle.office_core.specs.declared.bookmark.Point.{Point}
use Rattle.office_core.specs.Bookmarks.{IsBookmark, IsPoint, IsStart, is_of}
use Rattle.office_core.specs.Machine.{answered, changes_from, changes_reply, held_after, of_zone, if_some, numbered, refusal, seen, seen_of, step, updated, with_change}
use Rattle.office_core.specs.Steps.{IsAnswer, Steps}

-- ---- changes with their numbers

numbered_append : (n : ℕ) (a b : List ChangeOf) → numbered n (a ++ b) ≡ numbered n a ++ numbered (n + length a) b
numbered_append n [] b = ap (λ (m : ℕ). numbered m b) (let e : n ≡ n + 0 = omega arith in e)
numbered_append n (c ∷ a) b =
    ap (λ (ns : List NumberedOf). record { number = n; removed = c.removed; added = c.added } ∷ ns)
    (numbered_append (suc n) a b ∙ ap (λ (m : ℕ). numbered (suc n) a ++ numbered m b) (let e : suc n + length a ≡ n + suc (length a) = omega arith in e))

-- numbers that are all below a least one
below_all : (from n : ℕ) (a : List ChangeOf) → (a ≡ []) ⊎ (n + length a ≤ from) → filter (λ c. nat_le from c.number) (numbered n a) ≡ []
below_all from n [] few = refl
below_all from n (c ∷ a) (inl e) = absurd cc
below_all from n (c ∷ a) (inr few) =
    ap (λ (b : Bool). cond b (record { number = n; removed = c.removed; added = c.added } ∷ filter (λ c. nat_le from c.number) (numbered (suc n) a)) (filter (λ c. nat_le from c.number) (numbered (suc n) a)))
    (lt-leb from n (omega (arith, few)))
    ∙ below_all from (suc n) a (inr (omega (arith, few)))

none_of : {X : Type 0} (xs : List X) → length xs ≡ 0 → xs ≡ []
none_of [] e = refl
none_of (x ∷ xs) e = absurd cc

module _ (rules : List Rule) (caller : List ℕ) where
  seen_split : (cs : List ChangeOf) (n : ℕ) → seen rules caller cs ≡ seen rules caller (take n cs) ++ seen rules caller (drop n cs)
  seen_split cs n =
      ap (λ (l : List ChangeOf). seen rules caller l) (sym (take-append-drop n cs))
      ∙ flat_map-append (λ (c : ChangeOf). if_some (seen_of rules caller c)) (take n cs) (drop n cs)

  pub first_point : (from : ℕ) (cs : List ChangeOf) → IsStart rules caller from cs (record { read = 0; seen = 0 })
  first_point from cs = record { right = record { read = omega arith; seen = refl }; before = inl refl }

  -- the changes from a number on, after a point that is before it
  pub from_start : (from : ℕ) (cs : List ChangeOf) (point : Point) → IsStart rules caller from cs point
      → filter (λ c. nat_le from c.number) (numbered (point.seen + 1) (seen rules caller (drop point.read cs))) ≡ changes_from rules caller from cs
  from_start from cs point start =
      let a = seen rules caller (take point.read cs) in
      let b = seen rules caller (drop point.read cs) in
      let keeps = λ (c : NumberedOf). nat_le from c.number in
      let is : point.seen ≡ length a = start.right.seen in
      let few : (a ≡ []) ⊎ (1 + length a ≤ from) =
      ⊎_elim (λ (e : point.seen ≡ 0). inl (none_of a (sym is ∙ e))) (λ (lt : point.seen < from). inr (omega (arith, lt, is))) start.before in
      sym
      (ap (λ (l : List ChangeOf). filter keeps (numbered 1 l)) (seen_split cs point.read)
      ∙ ap (filter keeps) (numbered_append 1 a b)
      ∙ filter-append keeps (numbered 1 a) (numbered (1 + length a) b)
      ∙ ap (λ (l : List NumberedOf). l ++ filter keeps (numbered (1 + length a) b)) (below_all from 1 a few)
      ∙ ap (λ (m : ℕ). filter keeps (numbered m b)) (let e : 1 + length a ≡ point.seen + 1 = omega (arith, is) in e))

  -- the point after all changes
  pub last_point : (cs behind : List ChangeOf) (began ended : Point) → IsPoint rules caller cs began → behind ≡ drop began.read cs
      → ended.read ≡ began.read + length behind → ended.seen ≡ began.seen + length (seen rules caller behind) → IsPoint rules caller cs ended
  last_point cs behind began ended before is read there =
      let all : ended.read ≡ length cs = omega (arith, read, ap (λ (l : List ChangeOf). length l) is, length-drop began.read cs, before.read) in
      record {
        read = omega (arith, all);
        seen =
            there
            ∙ (let e : began.seen + length (seen rules caller behind) ≡ length (seen rules caller (take began.read cs)) + length (seen rules caller (drop began.read cs)) =
            omega (arith, before.seen, ap (λ (l : List ChangeOf). length (seen rules caller l)) is) in e)
            ∙ sym (length-append (seen rules caller (take began.read cs)) (seen rules caller (drop began.read cs)))
            ∙ ap (λ (l : List ChangeOf). length l) (sym (seen_split cs began.read))
            ∙ ap (λ (l : List ChangeOf). length (seen rules caller l)) (sym (take_all ended.read cs (omega (arith, all))));
      }

  -- a point stays where changes come after
  pub point_stays : (cs more : List ChangeOf) (point : Point) → IsPoint rules caller cs point → IsPoint rules caller (cs ++ more) point
  point_stays cs more point is =
      record {
        read = omega (arith, is.read, length-append cs more);
        seen = is.seen ∙ ap (λ (l : List ChangeOf). length (seen rules caller l)) (sym (take-append-le point.read cs more is.read));
      }

-- ---- whose a bookmark is

pub whose : (caller : List ℕ) (origin : List (List ℕ)) (b : Bookmark) → is_of caller origin b ≡ true → (b.caller ≡ caller) × (b.origin ≡ origin)
whose caller origin b e =
    let parts = and_parts (bytes_eq b.caller caller) (same_name b.origin origin) e in
    ((bytes_eq-Decides b.caller caller).0 parts.0, (same_name-Decides b.origin origin).0 parts.1)

-- ---- after a request

-- each zone was there, and its changes begin with those that it had
abbrev pub Grows : State → State → Type 0
Grows s t = (origin : List (List ℕ)) (after : Held) → t.zones origin ≡ Some after → (before : Held) × (s.zones origin ≡ Some before) × (more : List ChangeOf) × (after.changes ≡ before.changes ++ more)

grows_same : (s : State) → Grows s s
grows_same s origin after e = (after, e, [], sym (append-nil after.changes))

with_change_grows : (a b : Records) (cs : List ChangeOf) → (more : List ChangeOf) × (with_change a b cs ≡ cs ++ more)
with_change_grows a b cs = by_test (is_same a b)
  where
    by_test : (same : Bool) → (more : List ChangeOf) × ((if same then cs else cs ++ change_between a b ∷ []) ≡ cs ++ more)
    by_test true = ([], sym (append-nil cs))
    by_test false = (change_between a b ∷ [], refl)

made_grows : (s : State) (origin : List (List ℕ)) (update : UpdateOf) → Grows s (hold s origin (option_map (held_after origin update) (s.zones origin)))
made_grows s origin update name after e = by_name (same_name name origin) refl
  where
    Found : Type 0
    Found = (before : Held) × (s.zones name ≡ Some before) × (more : List ChangeOf) × (after.changes ≡ before.changes ++ more)

    here : name ≡ origin → (held : Option Held) → s.zones origin ≡ held → option_map (held_after origin update) held ≡ Some after → Found
    here same None is made = absurd cc
    here same (Some held) is made =
        let grown = with_change_grows held.records (held_after origin update held).records held.changes in
        let it : held_after origin update held ≡ after = cc in
        (held, ap s.zones same ∙ is, grown.0, ap (λ (h : Held). h.changes) (sym it) ∙ grown.1)

    by_name : (b : Bool) → same_name name origin ≡ b → Found
    by_name false is = (after, sym (ap (λ (b : Bool). if b then option_map (held_after origin update) (s.zones origin) else s.zones name) is) ∙ e, [], sym (append-nil after.changes))
    by_name true is =
        here ((same_name-Decides name origin).0 is) (s.zones origin) refl (sym (ap (λ (b : Bool). if b then option_map (held_after origin update) (s.zones origin) else s.zones name) is) ∙ e)

module _ (rules : List Rule) (s : State) (caller : List ℕ) where
  answered_grows : (id : List ℕ) (origin : List (List ℕ)) (update : UpdateOf) (refused : Option UpdateReply) → Grows s (answered s caller id origin update refused).after
  answered_grows id origin update (Some reply) = grows_same s
  answered_grows id origin update None = made_grows s origin update

  updated_grows : (id : List ℕ) (origin : List (List ℕ)) (update : UpdateOf) (kept : Option Receipt) → Grows s (updated rules s caller id origin update kept).after
  updated_grows id origin update (Some kept) = grows_same s
  updated_grows id origin update None = answered_grows id origin update (refusal rules caller origin update (s.zones origin))

  step_grows : (request : Request) → Grows s (step rules s caller request).after
  step_grows (requests.Update origin id update) = updated_grows id origin update (s.receipts caller id)
  step_grows (requests.Read query) = grows_same s

bookmark_stays : (rules : List Rule) (s t : State) (b : Bookmark) → Grows s t → IsBookmark rules s b → IsBookmark rules t b
bookmark_stays rules s t b grows right after e =
    let grown = grows b.origin after e in
    let before = right grown.0 grown.1 in
    let stays = λ (point : Point) (is : IsPoint rules b.caller grown.0.changes point).
    subst (λ (cs : List ChangeOf). IsPoint rules b.caller cs point) (sym grown.3) (point_stays rules b.caller grown.0.changes grown.2 point is) in
    (stays b.began before.0, stays b.ended before.1)

-- bookmarks are right after a request
pub bookmarks_stay : (rules : List Rule) (s : State) (caller : List ℕ) (request : Request) (rows : List Bookmark)
    → All (IsBookmark rules s) rows → All (IsBookmark rules (step rules s caller request).after) rows
bookmarks_stay rules s caller request rows right =
    let t = (step rules s caller request).after in
    All-weaker (IsBookmark rules s) (IsBookmark rules t) (λ b. bookmark_stays rules s t b (step_grows rules s caller request)) rows right

-- ---- bookmarks that are kept

-- a bookmark that is made of right points
pub right_bookmark : (rules : List Rule) (s : State) (b : Bookmark) (caller : List ℕ) (origin : List (List ℕ)) (began ended : Point)
    → (b.caller ≡ caller) × (b.origin ≡ origin) × (b.began ≡ began) × (b.ended ≡ ended)
    → ((held : Held) → s.zones origin ≡ Some held → IsPoint rules caller held.changes began × IsPoint rules caller held.changes ended)
    → IsBookmark rules s b
right_bookmark rules s b caller origin began ended (own, zone, first, last) points held e =
    let both = points held (ap s.zones (sym zone) ∙ e) in (
      subst (λ (c : List ℕ). IsPoint rules c held.changes b.began) (sym own) (subst (IsPoint rules caller held.changes) (sym first) both.0),
      subst (λ (c : List ℕ). IsPoint rules c held.changes b.ended) (sym own) (subst (IsPoint rules caller held.changes) (sym last) both.1),
    )

-- the points of a caller's bookmark
pub points_of : (rules : List Rule) (s : State) (b : Bookmark) (caller : List ℕ) (origin : List (List ℕ)) → IsBookmark rules s b → is_of caller origin b ≡ true
    → (held : Held) → s.zones origin ≡ Some held → IsPoint rules b.caller held.changes b.began × IsPoint rules b.caller held.changes b.ended
points_of rules s b caller origin right is held e = right held (ap s.zones (whose caller origin b is).1 ∙ e)

pub kept_without : (rules : List Rule) (s : State) (rows left : List Bookmark) (b : Bookmark) → All (IsBookmark rules s) rows
    → left ≡ filter (λ row. not (is_of b.caller b.origin row)) rows → All (IsBookmark rules s) left
kept_without rules s rows left b right is =
    subst (All (IsBookmark rules s)) (sym is) (All-filter (λ row. not (is_of b.caller b.origin row)) (IsBookmark rules s) rows right)

pub kept_with : (rules : List Rule) (s : State) (rows all : List Bookmark) (b : Bookmark) (is_kept : Bool) → All (IsBookmark rules s) rows → IsBookmark rules s b
    → all ≡ (if is_kept then rows ++ b ∷ [] else rows) → All (IsBookmark rules s) all
kept_with rules s rows all b true right one is = subst (All (IsBookmark rules s)) (sym is) (All-push (IsBookmark rules s) rows b right one)
kept_with rules s rows all b false right one is = subst (All (IsBookmark rules s)) (sym is) right

-- the start of a bookmark that is found among others
pub found_start : (rules : List Rule) (s : State) (rows : List Bookmark) (i : ℕ) (b : Bookmark) (caller : List ℕ) (origin : List (List ℕ)) (from : ℕ) (held : Held) (point : Point)
    → All (IsBookmark rules s) rows → i < length rows → b ≡ get_or rows i b → is_of caller origin b ≡ true → s.zones origin ≡ Some held
    → (IsPoint rules b.caller held.changes b.began → IsPoint rules b.caller held.changes b.ended → IsStart rules b.caller from held.changes point)
    → IsStart rules caller from held.changes point
found_start rules s rows i b caller origin from held point right lt is own e starts =
    let here : IsBookmark rules s b = subst (IsBookmark rules s) (sym is) (right i b lt) in
    let both = points_of rules s b caller origin here own held e in
    subst (λ (c : List ℕ). IsStart rules c from held.changes point) (whose caller origin b own).0 (starts both.0 both.1)

-- ---- what is read after a point

-- changes that are read of a zone are those of one that is there
pub found_behind : (s : State) (origin : List (List ℕ)) (read : List ChangeOf → List ChangeOf) (cs : List ChangeOf) → Some cs ≡ option_map read (changes_at s origin)
    → (held : Held) × (s.zones origin ≡ Some held) × (cs ≡ read held.changes)
found_behind s origin read cs e = of_held (s.zones origin) refl e
  where
    of_held : (h : Option Held) → s.zones origin ≡ h → Some cs ≡ option_map read (option_map (λ held. held.changes) h)
        → (held : Held) × (s.zones origin ≡ Some held) × (cs ≡ read held.changes)
    of_held None is e = absurd cc
    of_held (Some held) is e = (held, is, let it : cs ≡ read held.changes = cc in it)

-- and where none are, there is no zone
pub found_none : (s : State) (origin : List (List ℕ)) (read : List ChangeOf → List ChangeOf) → None ≡ option_map read (changes_at s origin) → s.zones origin ≡ None
found_none s origin read e = of_held (s.zones origin) e
  where
    of_held : (h : Option Held) → None ≡ option_map read (option_map (λ held. held.changes) h) → h ≡ None
    of_held None e = refl
    of_held (Some held) e = absurd cc

pub one_held : (s : State) (origin : List (List ℕ)) (a b : Held) → s.zones origin ≡ Some a → s.zones origin ≡ Some b → a ≡ b
one_held s origin a b e f = let it : Some a ≡ Some b = sym e ∙ f in cc

module _ (rules : List Rule) (caller : List ℕ) where
  -- what is seen there, with its numbers, is the reply
  pub followed : (s : State) (origin : List (List ℕ)) (from : ℕ) (point : Point) (held : Held) (sees : List ChangeOf) (ns : List NumberedOf)
      → IsStart rules caller from held.changes point → s.zones origin ≡ Some held → sees ≡ seen rules caller (drop point.read held.changes)
      → ns ≡ filter (λ c. nat_le from c.number) (numbered (point.seen + 1) sees)
      → changes ns ≡ of_zone (s.zones origin) (changes_reply rules caller from)
  followed s origin from point held sees ns start is there numbers =
      ap (λ (l : List NumberedOf). changes l)
      (numbers
      ∙ ap (λ (l : List ChangeOf). filter (λ c. nat_le from c.number) (numbered (point.seen + 1) l)) there
      ∙ from_start rules caller from held.changes point start)
      ∙ ap (λ (h : Option Held). of_zone h (changes_reply rules caller from)) (sym is)

  -- and it ends at a point, if numbers can say it
  pub ended_at : (cs sees : List ChangeOf) (began : Point) (ended : Option Point) (read sights : ℕ) → IsPoint rules caller cs began → read ≡ began.read + length (drop began.read cs)
      → sees ≡ seen rules caller (drop began.read cs) → sights ≡ length sees
      → IfSome ended (λ point. (point.read ≡ read) × (point.seen ≡ began.seen + sights)) → IfSome ended (λ point. IsPoint rules caller cs point)
  ended_at cs sees began None read sights right many there some e = tt
  ended_at cs sees began (Some point) read sights right many there some (a, b) =
      last_point rules caller cs (drop began.read cs) began point right refl (a ∙ many)
      (b ∙ ap (λ (n : ℕ). began.seen + n) (some ∙ ap (λ (l : List ChangeOf). length l) there))

module _ (holds right : State → Type 0) (rules : List Rule) (s : State) (caller : List ℕ) (request : Request) where
  -- an answer, with what is right of the state after it
  pub and_right : (reply : Reply) → IsAnswer reply → (reply_of reply ≡ Some (step rules s caller request).reply) × holds (step rules s caller request).after
      → right (step rules s caller request).after → Steps (λ t. holds t × right t) rules s caller request reply
  and_right (replies.Servfail fault) answers takes after = absurd answers
  and_right (replies.Update reply) answers takes after = (takes.0, (takes.1, after))
  and_right replies.IdReused answers takes after = (takes.0, (takes.1, after))
  and_right replies.NotAuth answers takes after = (takes.0, (takes.1, after))
  and_right replies.NotZone answers takes after = (takes.0, (takes.1, after))
  and_right (replies.Read reading) answers takes after = (takes.0, (takes.1, after))

  -- and without it
  pub only_held : (reply : Reply) → Steps (λ t. holds t × right t) rules s caller request reply → Steps holds rules s caller request reply
  only_held (replies.Servfail fault) steps = steps.0
  only_held (replies.Update reply) steps = (steps.0, steps.1.0)
  only_held replies.IdReused steps = (steps.0, steps.1.0)
  only_held replies.NotAuth steps = (steps.0, steps.1.0)
  only_held replies.NotZone steps = (steps.0, steps.1.0)
  only_held (replies.Read reading) steps = (steps.0, steps.1.0)
