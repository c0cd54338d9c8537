use Rattle.std.proofs.lemmas.Result.{err_from_is_err_and}
use Rattle.std.specs.Prelude.{string_bytes}
use Rattle.cli_store.proofs.RemovalLemmas.{not_found, unmade, went, stayed}
use Rattle.cli_store.proofs.removal.ZoneRemovalTableJobString.run.Goals as goal

pub returns-in_err-serial : goal.returns-in_err-serial
returns-in_err-serial g c =
    let p = err_from_is_err_and c.from_residual.result c.from_residual.ensures.1 in
    let e = c.in_err-serial.ensures in
    rw (p.1, p.2) (not_found c.args.self.now.0.now _ _ _ e.asks.0 e.answer)

pub returns-in_err-line : goal.returns-in_err-line
returns-in_err-line g c =
    let p = err_from_is_err_and c.from_residual-in_err-line.result c.from_residual-in_err-line.ensures.1 in
    rw (p.1, p.2) (unmade c.args.self.now.0.now _ _ _ c.in_ok-serial.ensures.asks.0 tt)

pub returns-in_err-remove : goal.returns-in_err-remove
returns-in_err-remove g c =
    let p = err_from_is_err_and c.from_residual-in_err-remove.result c.from_residual-in_err-remove.ensures.1 in
    let e = c.in_ok-serial.ensures in
    let f = c.in_err-remove.ensures in
    rw (p.1, p.2) (stayed c.args.self.now.0.now _ _ _ c.in_ok-serial.serial e.asks.0 e.answer _ f.turns f.answer)

pub returns : goal.returns
returns g c =
    let e = c.in_ok-serial.ensures in
    let f = c.in_ok-remove.ensures in
    went c.args.self.now.0.now _ _ _ c.in_ok-serial.serial e.asks.0 e.answer _ (string_bytes c.in_ok-line.line) c.in_ok-line.ensures f.turns
