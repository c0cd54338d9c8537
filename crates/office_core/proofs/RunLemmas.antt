-- One more call of a run.
use Rattle.std.proofs.Common.{◌≡◌, ℕ, ◌+◌, ◌<◌, List, [], ◌∷◌, ◌++◌, length, take, get_or, Option, Some, None, refl, sym, ap, subst, ◌∙◌, append_assoc, arith, length-append}
use Rattle.std.specs.Prelude.{sum_by}
use Rattle.std.proofs.lemmas.List.{append-nil, take_more}
use Rattle.std.proofs.lemmas.List.Sums.{sum_by-append}
use Rattle.grant_policy.specs.declared.rule.Rule.{Rule}
use Rattle.office_model.specs.declared.request.Call.{Call}
use Rattle.office_model.specs.declared.reply.Reply.{Reply}
use Rattle.office_model.specs.declared.table_fault.TableFault.TheVariants.{Store, NoMemory}
use Rattle.office_model.specs.declared.table_fault.StepFault.TheVariants.{BeforeCommit, Commit}
use Rattle.office_model.specs.declared.reply.Reply.TheVariants.{Update, IdReused, Servfail, NotAuth, NotZone, Read}
use Rattle.office_model.specs.Replies.{ReplyOf, reply_of}
use Rattle.office_model.specs.States.{State}
use Rattle.office_model.specs.Tables.{LeavesOr}
use Rattle.office_core.specs.Steps.{Steps, Leaves, CountsReply}
use Rattle.office_core.specs.Runs.{Answer, turn, answers, state_after, one_kept, one_given, kept, given, IsRun, other_next, other_in, counted_failures}

same_Some : {T : Type 0} (a b : T) → Some a ≡ Some b → a ≡ b
same_Some a b e = cc

-- ---- what was answered, with one more

kept-append : (calls : List Call) (rs : List Reply) (call : Call) (r : Reply) → length rs ≡ length calls → kept (calls ++ call ∷ []) (rs ++ r ∷ []) ≡ kept calls rs ++ one_kept call (reply_of r)
kept-append [] [] call r e = append-nil (one_kept call (reply_of r))
kept-append [] (x ∷ xs) call r e = absurd (omega arith)
kept-append (x ∷ xs) [] call r e = absurd (omega arith)
kept-append (x ∷ xs) (y ∷ ys) call r e =
    ap (λ (l : List Call). one_kept x (reply_of y) ++ l) (kept-append xs ys call r (omega arith))
    ∙ sym (append_assoc (one_kept x (reply_of y)) (kept xs ys) (one_kept call (reply_of r)))

given-append : (calls : List Call) (rs : List Reply) (call : Call) (r : Reply) → length rs ≡ length calls → given (calls ++ call ∷ []) (rs ++ r ∷ []) ≡ given calls rs ++ one_given call (reply_of r)
given-append [] [] call r e = append-nil (one_given call (reply_of r))
given-append [] (x ∷ xs) call r e = absurd (omega arith)
given-append (x ∷ xs) [] call r e = absurd (omega arith)
given-append (x ∷ xs) (y ∷ ys) call r e =
    ap (λ (l : List Answer). one_given x (reply_of y) ++ l) (given-append xs ys call r (omega arith))
    ∙ sym (append_assoc (one_given x (reply_of y)) (given xs ys) (one_given call (reply_of r)))

module _ (rules : List Rule) where
  answers-append : (s : State) (xs ys : List Call) → answers rules s (xs ++ ys) ≡ answers rules s xs ++ answers rules (state_after rules s xs) ys
  answers-append s [] ys = refl
  answers-append s (x ∷ xs) ys = ap (λ (l : List Answer). record { caller = x.caller; reply = (turn rules s x).reply } ∷ l) (answers-append (turn rules s x).after xs ys)

  state_after-append : (s : State) (xs ys : List Call) → state_after rules s (xs ++ ys) ≡ state_after rules (state_after rules s xs) ys
  state_after-append s [] ys = refl
  state_after-append s (x ∷ xs) ys = state_after-append (turn rules s x).after xs ys

  -- ---- one call

  module _ (holds : State → Type 0) (t : State) (call : Call) where
    abbrev One : Option ReplyOf → Type 0
    One o = (one_given call o ≡ answers rules t (one_kept call o)) × holds (state_after rules t (one_kept call o))

    one_some : (o : Option ReplyOf) → o ≡ Some (turn rules t call).reply → holds (turn rules t call).after → One o
    one_some None e h = absurd cc
    one_some (Some x) e h = (ap (λ (y : ReplyOf). record { caller = call.caller; reply = y } ∷ []) (same_Some x (turn rules t call).reply e), h)

    one_call : (r : Reply) → Steps holds rules t call.caller call.request r → One (reply_of r)
    one_call (Servfail fault) h = (refl, h)
    one_call r both = one_some (reply_of r) both.0 both.1

  -- ---- runs

  run_more : (before after : State → Type 0) (s : State) (calls : List Call) (rs : List Reply) (call : Call) (r : Reply) → IsRun before rules s calls rs → ((t : State) → before t → Steps after rules t call.caller call.request r) → IsRun after rules s (calls ++ call ∷ []) (rs ++ r ∷ [])
  run_more before after s calls rs call r run steps =
      let t : State = state_after rules s (kept calls rs) in
      let one = one_call after t call r (steps t run.held) in
      let more = kept-append calls rs call r run.each_replied in
      record {
        each_replied = length-append rs (r ∷ []) ∙ ap (λ (n : ℕ). n + 1) run.each_replied ∙ sym (length-append calls (call ∷ []));
        as_machine =
            given-append calls rs call r run.each_replied
            ∙ (λ i. run.as_machine i ++ one.0 i)
            ∙ sym (answers-append s (kept calls rs) (one_kept call (reply_of r)))
            ∙ ap (answers rules s) (sym more);
        held = subst after (sym (ap (state_after rules s) more ∙ state_after-append s (kept calls rs) (one_kept call (reply_of r)))) one.1;
      }

  -- the same of the next call of a list
  pub run_next : (before after : State → Type 0) (s : State) (calls : List Call) (i : ℕ) (rs all : List Reply) (call : Call) (r : Reply) → i < length calls → call ≡ get_or calls i call → all ≡ rs ++ r ∷ [] → IsRun before rules s (take i calls) rs → ((t : State) → before t → Steps after rules t call.caller call.request r) → IsRun after rules s (take (i + 1) calls) all
  run_next before after s calls i rs all call r low is more run steps =
      let taken : take (i + 1) calls ≡ take i calls ++ call ∷ [] = take_more calls i call low ∙ ap (λ (x : Call). take i calls ++ x ∷ []) (sym is) in
      subst (λ cs. IsRun after rules s cs all) (sym taken)
      (subst (λ l. IsRun after rules s (take i calls ++ call ∷ []) l) (sym more) (run_more before after s (take i calls) rs call r run steps))

  -- ---- crashes

  -- what a crash leaves after one more call
  left_one : (leaves : State → State → Type 0) (t : State) (other : Option State) (call : Call) (r : Reply) → Leaves leaves rules t other call.caller call.request r
      → LeavesOr leaves (state_after rules t (one_kept call (reply_of r))) (other_next rules t other call r)
  left_one leaves t other call (Servfail (BeforeCommit fault)) left = left
  left_one leaves t other call (Servfail (Commit fault)) left = left
  left_one leaves t other call (Update reply) left = left
  left_one leaves t other call IdReused left = left
  left_one leaves t other call NotAuth left = left
  left_one leaves t other call NotZone left = left
  left_one leaves t other call (Read reading) left = left

  other_in-append : (s : State) (other : Option State) (calls : List Call) (rs : List Reply) (call : Call) (r : Reply) → length rs ≡ length calls
      → other_in rules s other (calls ++ call ∷ []) (rs ++ r ∷ []) ≡ other_next rules (state_after rules s (kept calls rs)) (other_in rules s other calls rs) call r
  other_in-append s other [] [] call r e = refl
  other_in-append s other [] (x ∷ xs) call r e = absurd (omega arith)
  other_in-append s other (x ∷ xs) [] call r e = absurd (omega arith)
  other_in-append s other (x ∷ xs) (y ∷ ys) call r e =
      let t = state_after rules s (one_kept x (reply_of y)) in
      other_in-append t (other_next rules s other x y) xs ys call r (omega arith)
      ∙ ap (λ (k : State). other_next rules k (other_in rules s other (x ∷ xs) (y ∷ ys)) call r) (sym (state_after-append s (one_kept x (reply_of y)) (kept xs ys)))

  left_more : (leaves : State → State → Type 0) (s : State) (other : Option State) (calls : List Call) (rs : List Reply) (call : Call) (r : Reply) → length rs ≡ length calls
      → Leaves leaves rules (state_after rules s (kept calls rs)) (other_in rules s other calls rs) call.caller call.request r
      → LeavesOr leaves (state_after rules s (kept (calls ++ call ∷ []) (rs ++ r ∷ []))) (other_in rules s other (calls ++ call ∷ []) (rs ++ r ∷ []))
  left_more leaves s other calls rs call r e left =
      let state : state_after rules s (kept (calls ++ call ∷ []) (rs ++ r ∷ [])) ≡ state_after rules (state_after rules s (kept calls rs)) (one_kept call (reply_of r))
      = ap (state_after rules s) (kept-append calls rs call r e) ∙ state_after-append s (kept calls rs) (one_kept call (reply_of r)) in
      subst (λ (k : State). LeavesOr leaves k (other_in rules s other (calls ++ call ∷ []) (rs ++ r ∷ []))) (sym state)
      (subst (λ (o : Option State). LeavesOr leaves (state_after rules (state_after rules s (kept calls rs)) (one_kept call (reply_of r))) o) (sym (other_in-append s other calls rs call r e))
      (left_one leaves (state_after rules s (kept calls rs)) (other_in rules s other calls rs) call r left))

  -- the same of the next call of a list
  pub left_next : (leaves : State → State → Type 0) (s : State) (other : Option State) (calls : List Call) (i : ℕ) (rs all : List Reply) (call : Call) (r : Reply) → i < length calls → call ≡ get_or calls i call → all ≡ rs ++ r ∷ []
      → length rs ≡ length (take i calls) → Leaves leaves rules (state_after rules s (kept (take i calls) rs)) (other_in rules s other (take i calls) rs) call.caller call.request r
      → LeavesOr leaves (state_after rules s (kept (take (i + 1) calls) all)) (other_in rules s other (take (i + 1) calls) all)
  left_next leaves s other calls i rs all call r low is more e left =
      let taken : take (i + 1) calls ≡ take i calls ++ call ∷ [] = take_more calls i call low ∙ ap (λ (x : Call). take i calls ++ x ∷ []) (sym is) in
      subst (λ cs. LeavesOr leaves (state_after rules s (kept cs all)) (other_in rules s other cs all)) (sym taken)
      (subst (λ l. LeavesOr leaves (state_after rules s (kept (take i calls ++ call ∷ []) l)) (other_in rules s other (take i calls ++ call ∷ []) l)) (sym more) (left_more leaves s other (take i calls) rs call r e left))

-- ---- failures

-- a step tells a failure where the table counted one
one_told : (before after : ℕ) (r : Reply) → CountsReply before after r → after ≡ before + counted_failures r
one_told before after (Servfail (BeforeCommit Store)) e = e
one_told before after (Servfail (BeforeCommit NoMemory)) e = omega (arith, e)
one_told before after (Servfail (Commit Store)) e = e
one_told before after (Servfail (Commit NoMemory)) e = omega (arith, e)
one_told before after r e = omega (arith, e)

-- and so do all steps with one more
pub counts_next : (first before after : ℕ) (rs all : List Reply) (r : Reply) → before ≡ first + sum_by counted_failures rs → all ≡ rs ++ r ∷ [] → CountsReply before after r → after ≡ first + sum_by counted_failures all
counts_next first before after rs all r told more one =
    let last : after ≡ before + counted_failures r = one_told before after r one in
    let sum : sum_by counted_failures all ≡ sum_by counted_failures rs + (0 + counted_failures r) = ap (sum_by counted_failures) more ∙ sum_by-append counted_failures rs (r ∷ []) in
    omega (arith, told, last, sum)
