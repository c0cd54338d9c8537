-- What a job writes, where it is known what its steps made.
use Rattle.std.proofs.Common.{◌≡◌, ◌+◌, ℕ, ◌<◌, ◌≤◌, List, ◌++◌, length, take, Option, Result, Ok, Err, inl, inr, refl, sym, subst, arith, length-append}
use Rattle.std.proofs.Math.Seq.{take-append-add}
use Rattle.std.specs.Io.KnownBytes.{Appends}
use Rattle.std.proofs.KnownBytes.{Appends-trans}
use Rattle.dns_master.specs.declared.master_fault.MasterFault.{MasterFault}
use Rattle.dns_master.specs.declared.master_fault.MasterFault.TheVariants as master
use Rattle.dns_master.specs.Device.{TextWritten}
use Rattle.cli_core.specs.declared.refusal.Refusal.{Refusal}
use Rattle.cli_core.specs.declared.line_fault.LineFault.{LineFault}
use Rattle.cli_core.specs.declared.line_fault.LineFault.TheVariants.{Refused, ReadFailed, NoMemory}
use Rattle.cli_core.specs.declared.line_fault.JobFault.{JobFault}
use Rattle.cli_core.specs.declared.line_fault.JobFault.TheVariants.{Reported, WriteFailed}
use Rattle.cli_core.specs.Device.{AppendsFront}
use Rattle.cli_core.specs.LineFaults.{◌>>=◌, Makes, GivesOf}
use Rattle.cli_core.specs.Replies.{line_of, MayWrite, IsAnswerWritten, IsRefusalWritten, IsPrinted, IsReply, Answered}
use Rattle.cli_core.proofs.StepLemmas.{refused_before, given_before, reached_before}

-- ---- printing

-- a prefix of a text went out after another text
pub front_behind : (a b c : Option (List ℕ)) (first second : List ℕ) → Appends a b first → AppendsFront b c second → AppendsFront a c (first ++ second)
front_behind a b c first second whole front =
    let short : length first + front.0 ≤ length (first ++ second) = omega (arith, front.1, length-append first second) in
    (length first + front.0, short, subst (Appends a c) (sym (take-append-add first second front.0)) (Appends-trans a b c first (take front.0 second) whole front.2))

module _ (a b c : Option (List ℕ)) (text : List ℕ) (first second third : ℕ) where
  told_behind : (n : ℕ) (result : Result (Unit {0}) JobFault) → n ≤ length text → Appends a b (take n text) → second ≡ first → IsRefusalWritten b c NoMemory result second third → IsPrinted a c text result first third
  told_behind n (Ok done) small front fine wrote = absurd wrote
  told_behind n (Err (Reported NoMemory)) small front fine wrote =
      ((take n text ++ line_of NoMemory, (n, small, refl), Appends-trans a b c (take n text) (line_of NoMemory) front wrote.1), omega (arith, fine, wrote.2))
  told_behind n (Err (Reported (Refused refusal))) small front fine wrote = absurd (cc (wrote.0))
  told_behind n (Err (Reported ReadFailed)) small front fine wrote = absurd (cc (wrote.0))
  told_behind n (Err WriteFailed) small front fine sent =
      let same = sent.0.1 in
      ((take n text ++ line_of NoMemory, inr (n, small, refl), front_behind a b c (take n text) (line_of NoMemory) front (subst (λ l. AppendsFront b c (line_of l)) same sent.0.2)), omega (arith, fine, sent.1))

  -- memory ran out while the text was written, and that was told
  pub printed_short : (fault : MasterFault) (result : Result (Unit {0}) JobFault) → ¬ (fault ≡ master.WriteFailed) → TextWritten a b text (Err fault) first second → IsRefusalWritten b c NoMemory result second third → IsPrinted a c text result first third
  printed_short master.WriteFailed result other wrote line = absurd (other refl)
  printed_short master.NoMemory result other wrote line = told_behind wrote.0.0 result wrote.0.1 wrote.0.2 wrote.1 line
  printed_short fault result other wrote line = absurd wrote

-- ---- jobs

module _ (left : Option (List ℕ)) (answer : List ℕ → Result (List ℕ) Refusal) (old new : Option (List ℕ)) (fine failed : Type 0) (writes writes_after : ℕ) where
  -- the answer was sent
  pub answered_sent : (text : List ℕ) → Makes left answer (Ok text) → fine → Appends old new text × (writes_after ≡ writes) → Answered left answer old new (Ok tt) fine failed writes writes_after
  answered_sent text makes well sent = ((text, makes, sent.0), well, sent.1)

  pub answered_front : (text : List ℕ) → Makes left answer (Ok text) → fine → AppendsFront old new text × (writes < writes_after) → Answered left answer old new (Err WriteFailed) fine failed writes writes_after
  answered_front text makes well sent = ((text, inl ((Ok text, makes, refl), well), sent.0), sent.1)

  pub answered_printed : (text : List ℕ) (result : Result (Unit {0}) JobFault) → Makes left answer (Ok text) → fine → IsPrinted old new text result writes writes_after → Answered left answer old new result fine failed writes writes_after
  answered_printed text (Ok done) makes well wrote = answered_sent text makes well wrote
  answered_printed text (Err (Reported NoMemory)) makes well wrote = ((wrote.0.0, inr (text, makes, wrote.0.1), wrote.0.2), well, wrote.1)
  answered_printed text (Err (Reported (Refused refusal))) makes well wrote = absurd wrote
  answered_printed text (Err (Reported ReadFailed)) makes well wrote = absurd wrote
  answered_printed text (Err WriteFailed) makes well wrote =
      let sent = wrote.0.0 in
      let reply : IsReply left answer fine failed sent = elim wrote.0.1 [
        | inl whole ↦ inl ((Ok text, makes, whole), well)
        | inr short ↦ inr (inr (inr (text, makes, short), well))
      ] in
      ((sent, reply, wrote.0.2), wrote.1)

  -- a fault was told by the line of its own, or by that of out of memory
  own_line : {X : Type 0} (view : X → List ℕ) (fault : LineFault) → GivesOf view left answer (Err fault) fine failed → Appends old new (line_of fault) → writes_after ≡ writes → Answered left answer old new (Err (Reported fault)) fine failed writes writes_after
  own_line view (Refused refusal) given line well = (given.0, line, given.1, well)
  own_line view ReadFailed given line well = (line, given.0, given.1, well)
  own_line view NoMemory given line well = ((line_of NoMemory, inl refl, line), given, well)

  own_front : {X : Type 0} (view : X → List ℕ) (fault : LineFault) → GivesOf view left answer (Err fault) fine failed → AppendsFront old new (line_of fault) → writes < writes_after → Answered left answer old new (Err WriteFailed) fine failed writes writes_after
  own_front view (Refused refusal) given front broke = ((line_of (Refused refusal), inl ((Err refusal, given.0, refl), given.1), front), broke)
  own_front view ReadFailed given front broke = ((line_of ReadFailed, inr (inl (refl, given.0, given.1)), front), broke)
  own_front view NoMemory given front broke = ((line_of NoMemory, inr (inr (inl refl, given)), front), broke)

  -- which fault was told in the place of another
  told_as : {X : Type 0} (view : X → List ℕ) (fault line : LineFault) → MayWrite fault line → GivesOf view left answer (Err fault) fine failed → GivesOf view left answer (Err line) fine failed
  told_as {X} view (Refused refusal) line (inl same) given = subst (λ l. GivesOf {X = X} view left answer (Err l) fine failed) (sym same) given
  told_as {X} view (Refused refusal) line (inr short) given = subst (λ l. GivesOf {X = X} view left answer (Err l) fine failed) (sym short) given.1
  told_as {X} view ReadFailed line same given = subst (λ l. GivesOf {X = X} view left answer (Err l) fine failed) (sym same) given
  told_as {X} view NoMemory line same given = subst (λ l. GivesOf {X = X} view left answer (Err l) fine failed) (sym same) given

  pub answered_told : {X : Type 0} (view : X → List ℕ) (fault : LineFault) (result : Result (Unit {0}) JobFault) → GivesOf view left answer (Err fault) fine failed → IsRefusalWritten old new fault result writes writes_after → Answered left answer old new result fine failed writes writes_after
  answered_told view fault (Ok done) given wrote = absurd wrote
  answered_told view fault (Err (Reported line)) given wrote = own_line view line (told_as view fault line wrote.0 given) wrote.1 wrote.2
  answered_told view fault (Err WriteFailed) given wrote = own_front view wrote.0.0 (told_as view fault wrote.0.0 wrote.0.1 given) wrote.0.2 wrote.1

  -- what was made, or the line of the fault, was written
  pub answered_written : {X : Type 0} (view : X → List ℕ) (made : Result X LineFault) (result : Result (Unit {0}) JobFault) → GivesOf view left answer made fine failed → IsAnswerWritten view old new made result writes writes_after → Answered left answer old new result fine failed writes writes_after
  answered_written view (Ok x) (Ok done) given wrote = answered_sent (view x) given.0 given.1 wrote
  answered_written view (Ok x) (Err (Reported line)) given wrote = absurd wrote
  answered_written view (Ok x) (Err WriteFailed) given wrote = answered_front (view x) given.0 given.1 wrote
  answered_written view (Err fault) result given wrote = answered_told view fault result given wrote

-- ---- an answer that is the text of what was made

module _ {A : Type 0} (left : Option (List ℕ)) (make : List ℕ → Result A Refusal) (text : A → List ℕ) where
  pub text_made : (a : A) → Makes left make (Ok a) → Makes left (λ input. make input >>= λ made. Ok (text made)) (Ok (text a))
  text_made a makes = (makes.0, makes.1, given_before (make makes.0) (λ made. Ok (text made)) a makes.2)

  pub text_refused : {X : Type 0} (view : X → A) (fault : LineFault) (fine failed : Type 0) → GivesOf view left make (Err fault) fine failed → GivesOf (λ (t : List ℕ). t) left (λ input. make input >>= λ made. Ok (text made)) (Err fault) fine failed
  text_refused view (Refused refusal) fine failed given =
      ((given.0.0, given.0.1, refused_before (make given.0.0) (λ made. Ok (text made)) refusal given.0.2), given.1)
  text_refused view ReadFailed fine failed given = (given.0, reached_before make (λ made. Ok (text made)) given.1)
  text_refused view NoMemory fine failed given = given
