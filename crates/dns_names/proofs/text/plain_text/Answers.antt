use Rattle.std.proofs.lemmas.Str.{IsUtf8-from_ascii}
use Rattle.dns_names.proofs.TextLemmas.{run_is_ascii}
use Rattle.dns_names.proofs.text.plain_text.Goals as goal

pub from_utf8_unchecked-requires : goal.from_utf8_unchecked-requires
from_utf8_unchecked-requires c = IsUtf8-from_ascii c.args.run.now (run_is_ascii c.args.run.now c.requires)
