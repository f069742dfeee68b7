-- How large a number may be, and how long a list: every limit that no configuration sets.
use Rattle.std.specs.Prelude.{ℕ}

-- all of the parent's, in hundredths of a percent
abbrev pub whole : ℕ
whole = 10000

-- the largest number of a clock: 2^53 - 1, up to which each reader of JSON has every number
abbrev pub most_clock : ℕ
most_clock = 9007199254740991

-- the most MB of a node or a request
abbrev pub most_memory : ℕ
most_memory = 4294967295

-- the most virtual cores of a node or a request
abbrev pub most_vcores : ℕ
most_vcores = 65536

-- the most containers that one ask counts
abbrev pub most_count : ℕ
most_count = 1000000

-- the largest number of a priority
abbrev pub most_priority : ℕ
most_priority = 4294967295

-- the most names of a path, `root` included
abbrev pub most_names : ℕ
most_names = 8

-- the most labels of a configuration
abbrev pub most_labels : ℕ
most_labels = 64

-- the most queues of a configuration
abbrev pub most_queues : ℕ
most_queues = 1024

-- the most queues just below one
abbrev pub most_children : ℕ
most_children = 64

-- the most nodes of a partition
abbrev pub most_nodes : ℕ
most_nodes = 65536

-- the most asks that an application has on a label
abbrev pub most_asks : ℕ
most_asks = 64
