use Rattle.std.specs.Prelude.{string_bytes}
use Rattle.std.specs.Result.{result_map_both}
use Rattle.cli_store.proofs.import_list.pass_told.Goals as goal

pub returns : goal.returns
returns g c = (result_map_both (λ text. string_bytes text) (λ fault. fault) c.pass-made.result, c.pass-made.ensures, c.report.ensures)
