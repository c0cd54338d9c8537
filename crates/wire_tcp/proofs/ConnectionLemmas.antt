-- Connections that were served, one after the other.
use Rattle.std.specs.Io.KnownBytes.{Appends}
use Rattle.std.proofs.KnownBytes.{Appends-nil, Appends-trans}
use Rattle.std.proofs.Common.{◌≡◌, ◌<◌, ◌≤◌, ◌+◌, inl, inr, ◌∙◌, ℕ, suc, List, [], ◌∷◌, ◌++◌, length, Option, Result, Ok, Err, refl, sym, ap, subst, append-nil, length-append, arith}
use Rattle.std.proofs.lemmas.Grind.{flat_map-append}
use Rattle.std.proofs.lemmas.List.{map-append}
use Rattle.grant_policy.specs.declared.rule.Rule.{Rule}
use Rattle.office_model.specs.States.{AreZones, AreReceipts}
use Rattle.office_wire.specs.Exchange.{Turn, Run}
use Rattle.office_wire.proofs.JoinLemmas.{run_join}
use Rattle.office_wire.proofs.PromiseLemmas.{exchanges_run}
use Rattle.cli_core.specs.declared.line_fault.LineFault.TheVariants.{Refused, ReadFailed, NoMemory}
use Rattle.cli_core.specs.declared.line_fault.JobFault.{JobFault}
use Rattle.cli_core.specs.declared.line_fault.JobFault.TheVariants.{Reported, WriteFailed}
use Rattle.cli_core.specs.Device.{AppendsFront}
use Rattle.cli_core.specs.Replies.{IsRefusalWritten, line_of}
use Rattle.cli_core.proofs.JobLemmas.{front_behind}
use Rattle.office_wire.specs.declared.serve_fault.ServeFault.{ServeFault}
use Rattle.dns_master.specs.declared.device.DeviceFailed.{DeviceFailed}
use Rattle.office_wire.specs.declared.servfails.Servfails.{Servfails}
use Rattle.office_wire.specs.Servfails.{servfails, AreNoted}
use Rattle.cli_core.specs.Replies.{IsSent}
use Rattle.wire_tcp.specs.Causes.{trace_by}
use Rattle.wire_tcp.specs.Limits.{Limits}
use Rattle.wire_tcp.specs.Connections.{Visit, fault_of, Parties, Moment, standing_at, IsVisit, AreVisits, joined, ends, trace_at, traces, ended_line, ended_lines, AreServed, AreReported, AreTraced}

rises : (before after : ℕ) → before < after → after ≡ before → ⊥
rises before after more same = omega (arith, more, same)

-- ---- the connections

joined_more : (visits : List Visit) (v : Visit) → joined (visits ++ v ∷ []) ≡ joined visits ++ v.turns
joined_more visits v =
    flat_map-append (λ (u : Visit). u.turns) visits (v ∷ []) ∙ ap (λ (l : List Turn). joined visits ++ l) (append-nil v.turns)

pub ends_more : (visits : List Visit) (v : Visit) → ends (visits ++ v ∷ []) ≡ ends visits ++ fault_of v.ended ∷ []
ends_more visits v = map-append (λ (u : Visit). fault_of u.ended) visits (v ∷ [])

pub ends_length : (visits : List Visit) → length (ends visits) ≡ length visits
ends_length [] = refl
ends_length (v ∷ visits) = ap suc (ends_length visits)

module _ {T H P : Type 0} (w : Parties T H P) (rules : List Rule) (limits : Limits) where
  -- one more after the others
  pub visits_more : (visits : List Visit) (v : Visit) (a m b : Moment T H) → AreVisits w rules limits visits a m → IsVisit w rules limits v m b
      → AreVisits w rules limits (visits ++ v ∷ []) a b
  visits_more [] v a m b p q = (b, subst (λ (x : Moment T H). IsVisit w rules limits v x b) p q, refl)
  visits_more (u ∷ visits) v a m b p q = (p.0, p.1, visits_more visits v p.0 m b p.2 q)

  -- their turns are a run
  visits_run : (visits : List Visit) (a b : Moment T H) → AreVisits w rules limits visits a b → Run rules (standing_at w a) (joined visits) (standing_at w b)
  visits_run [] a b p = ap (λ (m : Moment T H). standing_at w m) p
  visits_run (v ∷ visits) a b p =
      run_join rules (standing_at w a) (standing_at w p.0) (standing_at w b) v.turns (joined visits) p.1.run (visits_run visits p.0 b p.2)

  pub are_served : (visits : List Visit) (a b : Moment T H) → AreZones a.kept.state → AreReceipts a.kept.state → AreVisits w rules limits visits a b
      → AreServed w rules limits visits a b
  are_served visits a b zones receipts p =
      let ran = visits_run visits a b p in
      record { each = p; run = ran; promised = exchanges_run rules (standing_at w a) (standing_at w b) (joined visits) zones receipts ran }

pub one_more : (visits : List Visit) (v : Visit) (n : ℕ) → length visits ≡ n → length (visits ++ v ∷ []) ≡ n + 1
one_more visits v n count = let all = length-append visits (v ∷ []) in omega arith

pub one_ended : (ends : List (Option ServeFault)) (end : Option ServeFault) (n : ℕ) → length ends ≡ n → length (ends ++ end ∷ []) ≡ n + 1
one_ended ends end n count = let all = length-append ends (end ∷ []) in omega arith

-- ---- what is written

lines_more : (ends : List (Option ServeFault)) (end : Option ServeFault) → ended_lines (ends ++ end ∷ []) ≡ ended_lines ends ++ ended_line end
lines_more ends end = flat_map-append ended_line ends (end ∷ []) ∙ ap (λ (l : List ℕ). ended_lines ends ++ l) (append-nil (ended_line end))

module _ (old mid new : Option (List ℕ)) (ends : List (Option ServeFault)) where
  -- the line of one more
  pub told_more : (end : Option ServeFault) → Appends old mid (ended_lines ends) → Appends mid new (ended_line end) → Appends old new (ended_lines (ends ++ end ∷ []))
  told_more end before line = subst (Appends old new) (sym (lines_more ends end)) (Appends-trans old mid new (ended_lines ends) (ended_line end) before line)

  -- the writer failed in that line
  pub told_in_part : (cut : Type 0) (most n : ℕ) (end : Option ServeFault) (before failed after : ℕ) → length ends ≡ n → n < most → Appends old mid (ended_lines ends) → failed ≡ before
      → AppendsFront mid new (ended_line end) × (failed < after) → AreReported cut most (ends ++ end ∷ []) old new (Err WriteFailed) before after
  told_in_part cut most n end before failed after count more lines fine sent =
      let all = length-append ends (end ∷ []) in
      let front = subst (AppendsFront old new) (sym (lines_more ends end)) (front_behind old mid new (ended_lines ends) (ended_line end) lines sent.0) in
      (inl (omega (arith, all, count, more), front), omega (arith, fine, sent.1))

  -- no further connection can be had, and that is written
  pub told_last : {cut : Type 0} (most n : ℕ) (result : Result (Unit {0}) JobFault) (before failed after : ℕ) → cut → length ends ≡ n → n < most → Appends old mid (ended_lines ends) → failed ≡ before
      → IsRefusalWritten mid new ReadFailed result failed after → AreReported cut most ends old new result before after
  told_last most n (Ok done) before failed after none count more lines fine wrote = absurd wrote
  told_last most n (Err (Reported ReadFailed)) before failed after none count more lines fine wrote =
      (none, omega (arith, count, more), Appends-trans old mid new (ended_lines ends) (line_of ReadFailed) lines wrote.1, wrote.2 ∙ fine)
  told_last most n (Err (Reported (Refused refusal))) before failed after none count more lines fine wrote = absurd (cc wrote.0)
  told_last most n (Err (Reported NoMemory)) before failed after none count more lines fine wrote = absurd (cc wrote.0)
  told_last most n (Err WriteFailed) before failed after none count more lines fine wrote =
      let line = wrote.0.0 in
      let same : line ≡ ReadFailed = wrote.0.1 in
      let front = subst (λ l. AppendsFront mid new (line_of l)) same wrote.0.2 in
      (inr (none, omega (arith, count, more), front_behind old mid new (ended_lines ends) (line_of ReadFailed) lines front), omega (arith, fine, wrote.1))

-- the same of visits
pub told_visit : (visits : List Visit) (v : Visit) (old mid new : Option (List ℕ)) → Appends old mid (ended_lines (ends visits)) → Appends mid new (ended_line (fault_of v.ended))
    → Appends old new (ended_lines (ends (visits ++ v ∷ [])))
told_visit visits v old mid new before line =
    subst (λ (l : List (Option ServeFault)). Appends old new (ended_lines l)) (sym (ends_more visits v)) (told_more old mid new (ends visits) (fault_of v.ended) before line)

-- ---- the trace

sent_counted : (old new : Option (List ℕ)) (text : List ℕ) (result : Result (Unit {0}) DeviceFailed) (before after : ℕ) → IsSent old new text result before after → before ≤ after
sent_counted old new text (Ok done) before after sent = let fine = sent.1 in omega (arith, fine)
sent_counted old new text (Err failed) before after sent = let more = sent.1 in omega (arith, more)

-- what tells of one connection was written, or the writer failed
abbrev pub IsTraced : Visit → Option (List ℕ) → Option (List ℕ) → ℕ → ℕ → Type 0
IsTraced v old new before after = (before ≤ after) × (after ≡ before → Appends old new (trace_at v))

pub traced_once : (v : Visit) (note : Servfails) (old new : Option (List ℕ)) (result : Result (Unit {0}) DeviceFailed) (before after : ℕ)
    → AreNoted (servfails v.turns) note → IsSent old new (trace_by note.last note.count v.store) result before after → IsTraced v old new before after
traced_once v note old new (Ok done) before after noted sent = (
  sent_counted old new (trace_by note.last note.count v.store) (Ok done) before after sent,
  λ same. subst (Appends old new) (λ i. trace_by (noted.last i) (noted.count i) v.store) sent.0,
)
traced_once v note old new (Err failed) before after noted sent = (
  sent_counted old new (trace_by note.last note.count v.store) (Err failed) before after sent,
  λ same. absurd (rises before after sent.1 same),
)

traces_more : (visits : List Visit) (v : Visit) → traces (visits ++ v ∷ []) ≡ traces visits ++ trace_at v
traces_more visits v = flat_map-append trace_at visits (v ∷ []) ∙ ap (λ (l : List ℕ). traces visits ++ l) (append-nil (trace_at v))

pub traced_none : (a : Option (List ℕ)) (n : ℕ) → AreTraced [] (record { old = a; new = a; before = n; after = n })
traced_none a n = record { counted = omega arith; written = λ same. Appends-nil a }

-- and of one more
pub traced_more : (visits : List Visit) (v : Visit) (old mid new : Option (List ℕ)) (before between after : ℕ)
    → AreTraced visits (record { old = old; new = mid; before = before; after = between }) → IsTraced v mid new between after
    → AreTraced (visits ++ v ∷ []) (record { old = old; new = new; before = before; after = after })
traced_more visits v old mid new before between after p q =
    let first = p.counted in
    let second = q.0 in
    record {
      counted = omega (arith, first, second);
      written = λ same.
          let x = p.written (omega (arith, first, second, same)) in
          let y = q.1 (omega (arith, first, second, same)) in
          subst (Appends old new) (sym (traces_more visits v)) (Appends-trans old mid new (traces visits) (trace_at v) x y);
    }
