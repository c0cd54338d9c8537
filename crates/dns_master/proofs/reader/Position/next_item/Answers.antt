use Rattle.std.proofs.Common.{◌≡◌, ◌∙◌, ◌+◌, ℕ, Err, length, sym, ap, arith, length-drop, inl, inr, true, false, refl}
use Rattle.std.proofs.lemmas.Result.{err_from_is_err_and}
use Rattle.dns_master.specs.declared.shape.ShapeFault.TheVariants.{QuoteOpen}
use Rattle.dns_data.specs.Items.{ItemText}
use Rattle.dns_master.specs.Entries.{from}
use Rattle.dns_master.specs.Pieces.{line_len}
use Rattle.dns_master.proofs.StepLemmas.{at_line, at_entry_end, at_space, at_tab, at_return, at_comment, at_first_open, at_open, at_last_close, at_close, at_quoted, at_open_quote, at_plain, at_end, at_end_inside}
use Rattle.dns_master.proofs.reader.Position.next_item.Goals as goal

pub returns-in-10-clause-exact : goal.returns-in-10-clause-exact
returns-in-10-clause-exact c =
    let l = c.loop-octet in
    rw (c.new.ensures.rest, c.new.ensures.depth) (c.if-depth-eq0.true, sym l.invariant.so_far ∙ at_entry_end l.rest.now c.in-Some.after.now c.in-Some.octet l.depth l.outermost c.in-Some.ensures c.in-10.is c.if-depth-eq0.true)

pub loop-octet-preserved-in-10-2 : goal.loop-octet-preserved-in-10-2
loop-octet-preserved-in-10-2 c =
    let l = c.loop-octet in
    let n = ap length c.in-Some.ensures in
    record {
      room = omega (arith, n, l.invariant.room);
      shorter = omega (arith, n, l.invariant.shorter);
      so_far = sym (at_line l.rest.now c.in-Some.after.now c.in-Some.octet l.depth l.outermost c.in-Some.ensures c.in-10.is c.if-depth-eq0.false) ∙ l.invariant.so_far;
    }

pub loop-octet-preserved : goal.loop-octet-preserved
loop-octet-preserved c =
    let l = c.loop-octet in
    let n = ap length c.in-Some.ensures in
    let skipped : from l.depth l.outermost l.rest.now ≡ from l.depth l.outermost c.in-Some.after.now = elim c.in-10-2.is [
      | inl h ↦ at_tab l.rest.now c.in-Some.after.now c.in-Some.octet l.depth l.outermost c.in-Some.ensures h
      | inr h ↦ elim h [
        | inl k ↦ at_return l.rest.now c.in-Some.after.now c.in-Some.octet l.depth l.outermost c.in-Some.ensures k
        | inr k ↦ at_space l.rest.now c.in-Some.after.now c.in-Some.octet l.depth l.outermost c.in-Some.ensures k
      ]
    ] in
    record {
      room = omega (arith, n, l.invariant.room);
      shorter = omega (arith, n, l.invariant.shorter);
      so_far = sym skipped ∙ l.invariant.so_far;
    }

pub loop-octet-preserved-in-59-1 : goal.loop-octet-preserved-in-59-1
loop-octet-preserved-in-59-1 c =
    let l = c.loop-octet in
    let n = ap length c.in-Some.ensures in
    let m = ap length c.at_line_end-rest.ensures in
    let d = length-drop (line_len c.in-Some.after.now) c.in-Some.after.now in
    record {
      room = omega (arith, n, m, d, l.invariant.room);
      shorter = omega (arith, n, m, d, l.invariant.shorter);
      so_far = rw c.at_line_end-rest.ensures (sym (at_comment l.rest.now c.in-Some.after.now c.in-Some.octet l.depth l.outermost c.in-Some.ensures c.in-59.is) ∙ l.invariant.so_far);
    }

pub loop-octet-preserved-then-depth-eq0-2 : goal.loop-octet-preserved-then-depth-eq0-2
loop-octet-preserved-then-depth-eq0-2 c =
    let l = c.loop-octet in
    let n = ap length c.in-Some.ensures in
    record {
      room = omega (arith, n, l.invariant.room);
      shorter = omega (arith, n, l.invariant.shorter);
      so_far = sym (at_first_open l.rest.now c.in-Some.after.now c.in-Some.octet l.depth l.outermost c.in-Some.ensures c.in-40.is c.if-depth-eq0-2.true) ∙ l.invariant.so_far;
    }

pub loop-octet-preserved-in-40-1 : goal.loop-octet-preserved-in-40-1
loop-octet-preserved-in-40-1 c =
    let l = c.loop-octet in
    let n = ap length c.in-Some.ensures in
    record {
      room = omega (arith, n, l.invariant.room);
      shorter = omega (arith, n, l.invariant.shorter);
      so_far = sym (at_open l.rest.now c.in-Some.after.now c.in-Some.octet l.depth l.outermost c.in-Some.ensures c.in-40.is c.if-depth-eq0-2.false) ∙ l.invariant.so_far;
    }

pub returns-in-41-clause-exact : goal.returns-in-41-clause-exact
returns-in-41-clause-exact c =
    let l = c.loop-octet in
    sym l.invariant.so_far ∙ at_last_close l.rest.now c.in-Some.after.now c.in-Some.octet l.depth l.outermost c.in-Some.ensures c.in-41.is c.if-depth-eq0-3.true

pub loop-octet-preserved-in-41-1 : goal.loop-octet-preserved-in-41-1
loop-octet-preserved-in-41-1 c =
    let l = c.loop-octet in
    let n = ap length c.in-Some.ensures in
    record {
      room = omega (arith, n, l.invariant.room);
      shorter = omega (arith, n, l.invariant.shorter);
      so_far = sym (at_close l.rest.now c.in-Some.after.now c.in-Some.octet l.depth l.outermost c.in-Some.ensures c.in-41.is c.if-depth-eq0-3.false) ∙ l.invariant.so_far;
    }

pub returns-in_err-item-in-34-clause-exact : goal.returns-in_err-item-in-34-clause-exact
returns-in_err-item-in-34-clause-exact c =
    let l = c.loop-octet in
    let p = err_from_is_err_and c.from_residual.result c.from_residual.ensures.1 in
    let told = c.in_err-item-in-34.ensures.item in
    let left : length l.rest.now ≡ length c.in-Some.after.now + 1 = omega (arith, ap length c.in-Some.ensures) in
    rw (p.1, p.2, told.0) (sym l.invariant.so_far ∙ at_open_quote l.rest.now c.in-Some.after.now c.in-Some.octet l.depth l.outermost c.in-Some.ensures c.in-34.is _ _ refl refl told.1
    ∙ ap (λ (n : ℕ). Err (QuoteOpen n)) left)

pub returns-in-34-clause-exact : goal.returns-in-34-clause-exact
returns-in-34-clause-exact c =
    let l = c.loop-octet in
    let item = c.in_ok-item-in-34.item in
    let read = c.in_ok-item-in-34.ensures.item in
    let quoted : item.quoted ≡ true = ap (λ (i : ItemText). i.quoted) read.0 in
    let raw = ap (λ (i : ItemText). i.raw) read.0 in
    rw (c.new-in-34.ensures.rest, c.new-in-34.ensures.depth, c.new-in-34.ensures.outermost, quoted) (sym l.invariant.so_far
    ∙ at_quoted l.rest.now c.in-Some.after.now c.in-Some.octet l.depth l.outermost c.in-Some.ensures c.in-34.is _ read.1.0 item.raw.now _ c.in_ok-item-in-34.behind.now refl raw refl read.1.1)

pub returns-in_default-octet-clause-exact : goal.returns-in_default-octet-clause-exact
returns-in_default-octet-clause-exact c =
    let l = c.loop-octet in
    let o = c.in-Some.octet in
    let n10 : o ≡ 10 → ⊥ = λ h. omega arith in
    let n32 : o ≡ 32 → ⊥ = λ h. grind (arith, c.in_default-octet) in
    let n9 : o ≡ 9 → ⊥ = λ h. grind (arith, c.in_default-octet) in
    let n13 : o ≡ 13 → ⊥ = λ h. grind (arith, c.in_default-octet) in
    let n59 : o ≡ 59 → ⊥ = λ h. omega arith in
    let n40 : o ≡ 40 → ⊥ = λ h. omega arith in
    let n41 : o ≡ 41 → ⊥ = λ h. omega arith in
    let n34 : o ≡ 34 → ⊥ = λ h. omega arith in
    let item = c.plain_item.result.0 in
    let quoted : item.quoted ≡ false = ap (λ (i : ItemText). i.quoted) c.plain_item.ensures.item in
    let raw = ap (λ (i : ItemText). i.raw) c.plain_item.ensures.item in
    let new = c.new-in_default-octet.ensures in
    rw (new.rest, new.depth, new.outermost, quoted) (sym l.invariant.so_far
    ∙ at_plain l.rest.now c.in-Some.after.now o l.depth l.outermost c.in-Some.ensures n10 n32 n9 n13 n59 n40 n41 n34 _ item.raw.now c.plain_item.result.1.now refl raw c.plain_item.ensures.rest)

pub returns-then-depth-gt0-clause-exact : goal.returns-then-depth-gt0-clause-exact
returns-then-depth-gt0-clause-exact c =
    let l = c.loop-octet in
    let open_here : l.depth ≡ 0 → ⊥ = λ h. omega arith in
    sym l.invariant.so_far ∙ at_end_inside l.rest.now l.depth l.outermost c.in_default.ensures open_here

pub returns-clause-exact : goal.returns-clause-exact
returns-clause-exact c =
    let l = c.loop-octet in
    let closed : l.depth ≡ 0 = omega arith in
    rw (c.new-2.ensures.rest, c.new-2.ensures.depth) (closed, sym l.invariant.so_far ∙ at_end l.rest.now l.depth l.outermost c.in_default.ensures closed)
