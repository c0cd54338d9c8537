use Rattle.std.proofs.Common.{option_map}
use Rattle.std.specs.Duration.{as_nanos}
use Rattle.wire_tcp.proofs.serving.Connections.serve_peer.Given as goal

abbrev pub ghosts-serve_stream-A-Ledger : goal.ghosts-serve_stream-A-Ledger
ghosts-serve_stream-A-Ledger g a = record { name = a.blanks.0.name; parts = a.blanks.0.parts }

abbrev pub ghosts-serve_stream-B-Ledger : goal.ghosts-serve_stream-B-Ledger
ghosts-serve_stream-B-Ledger g a = record { name = a.blanks.1.name; parts = a.blanks.1.parts }

abbrev pub ghosts-serve_stream-Q-AgeOf : goal.ghosts-serve_stream-Q-AgeOf
ghosts-serve_stream-Q-AgeOf g a = record { longest = option_map as_nanos a.self.now.longest; begun = option_map as_nanos a.watched.begun; before = g.P.Watch.Watch.readings a.watched.watch }
