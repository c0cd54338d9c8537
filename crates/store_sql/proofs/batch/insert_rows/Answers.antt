use Rattle.std.proofs.Common.{◌++◌, [], refl, sym, ap, ◌∙◌, append_assoc, append-nil, arith, rules}
use Rattle.std.proofs.lemmas.List.{nil_from_length}
use Rattle.sqlite.specs.Held.{state}
use Rattle.sqlite.specs.State.{HasCleanDisk}
use Rattle.store_sql.specs.Statements.{with_each}
use Rattle.store_sql.proofs.TransactionParts.{part_none, part_then, part_same, each_append}
use Rattle.store_sql.proofs.batch.insert_rows.Goals as goal

pub loop-some-init : goal.loop-some-init
loop-some-init g c = record {
  can = search rules;
  ends = tt;
  size = search rules;
  name = refl;
  part = ([], search rules, part_none (state g.S.Store c.args.tx.now.conn.now));
  going = λ h _. h;
}

pub loop-some-preserved : goal.loop-some-preserved
loop-some-preserved g c =
    let with = g.T.Insert.with in
    let some = c.in-Some.some.now in
    let steps = c.in-Some.ensures.steps in
    let so_far = c.loop-some.invariant.part in
    let early = λ (clean : HasCleanDisk (state g.S.Store c.insert_some.new.tx.conn.now)). let it : HasCleanDisk (state g.S.Store c.loop-some.tx.conn.now) = omega (arith, c.insert_some.ensures.stays.survives.clean) in it in
    record {
      can = search rules;
      ends = tt;
      size = steps.0 ∙ c.loop-some.invariant.size;
      name = c.insert_some.ensures.same_reference ∙ c.loop-some.invariant.name;
      part = (
        so_far.0 ++ some,
        append_assoc so_far.0 some _ ∙ ap (λ l. so_far.0 ++ l) (sym steps.1.0) ∙ so_far.1,
        part_same _ _ _ _ (λ rows. sym (each_append with so_far.0 some rows)) (part_then _ _ _ _ _ so_far.2 c.in_ok-insert_some.ensures.part),
      );
      going = λ h clean. c.in_ok-insert_some.ensures.going (c.loop-some.invariant.going h (early clean)) clean;
    }

pub returns-clause-part : goal.returns-clause-part
returns-clause-part g c =
    let so_far = c.loop-some.invariant.part in
    let none = nil_from_length _ c.in-None.ensures.steps.1.0 in
    part_same _ _ _ _ (λ rows. ap (λ l. with_each g.T.Insert.with l rows) (sym (append-nil so_far.0) ∙ rw none at so_far.1)) so_far.2
