-- The limits of the program, as numbers.
use Rattle.frp_graph.specs.declared.limits.Limits.{Limits}

abbrev pub program_limits : Limits
program_limits = record { moments = 4096; nodes = 65536; entries = 1000000; senders = 16; workers = 16; sends = 4096 }
