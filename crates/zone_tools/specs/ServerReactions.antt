-- What name servers do with records that are at fault.
use Rattle.std.specs.Prelude.{ℕ, List, [], ◌∷◌, codes, Option, find, bytes_eq}
use Rattle.zone_tools.specs.declared.zone_rule.ZoneRule.{ZoneRule}
use Rattle.zone_tools.specs.declared.zone_rule.ZoneRule.TheVariants.{HostName, AliasTarget, MissingAddress, MissingGlue, WildcardNs, DigestLength, WeakDigest, AddressName, UnreadOctet}
use Rattle.zone_tools.specs.declared.name_server.NameServer.{NameServer}
use Rattle.zone_tools.specs.declared.name_server.NameServer.TheVariants.{Bind, Knot, Nsd}
use Rattle.zone_tools.specs.declared.name_server.Reaction.{Reaction}
use Rattle.zone_tools.specs.declared.name_server.Reaction.TheVariants.{Takes, Warns, Refuses}

-- the servers, and the word for each
abbrev pub all_servers : List NameServer
all_servers = Bind ∷ Knot ∷ Nsd ∷ []

abbrev pub server_text : NameServer → List ℕ
server_text Bind = codes "bind"
server_text Knot = codes "knot"
server_text Nsd = codes "nsd"

-- the server of a word
abbrev pub server_of_word : List ℕ → Option NameServer
server_of_word word = find (λ s. bytes_eq (server_text s) word) all_servers

-- the word for what a server does
abbrev pub reaction_text : Reaction → List ℕ
reaction_text Takes = codes "takes"
reaction_text Warns = codes "warns"
reaction_text Refuses = codes "refuses"

-- ---- with a record that is at fault by a rule, at worst

-- BIND 9.18
abbrev pub bind_reaction : ZoneRule → Reaction
bind_reaction HostName = Refuses
bind_reaction AliasTarget = Refuses
bind_reaction MissingAddress = Refuses
bind_reaction MissingGlue = Warns
bind_reaction WildcardNs = Refuses
bind_reaction DigestLength = Refuses
bind_reaction WeakDigest = Warns
bind_reaction AddressName = Warns
bind_reaction rule = Takes

-- Knot 3.2, whose check of a zone finds more than its server does
abbrev pub knot_reaction : ZoneRule → Reaction
knot_reaction AliasTarget = Refuses
knot_reaction MissingAddress = Refuses
knot_reaction MissingGlue = Refuses
knot_reaction DigestLength = Refuses
knot_reaction UnreadOctet = Refuses
knot_reaction rule = Takes

-- NSD 4.6 takes them all
abbrev pub reaction : NameServer → ZoneRule → Reaction
reaction Bind rule = bind_reaction rule
reaction Knot rule = knot_reaction rule
reaction Nsd rule = Takes
