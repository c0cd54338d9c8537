use Rattle.std.proofs.lemmas.Str.{IsUtf8-from_ascii}
use Rattle.dns_names.specs.Spelling.{octet_text}
use Rattle.dns_names.proofs.TextLemmas.{octet_is_ascii}
use Rattle.dns_names.proofs.text.write_octet.Goals as goal

pub from_utf8_unchecked-requires : goal.from_utf8_unchecked-requires
from_utf8_unchecked-requires g c =
    rw (c.as_slice.ensures.value, c.spelling-spelling.ensures.text) (IsUtf8-from_ascii (octet_text c.args.octet) (octet_is_ascii c.args.octet c.spelling-spelling.ensures.octet))
