-- Rows counted by the texts of their paths but for the last parts.
use Rattle.std.specs.Prelude.{ℕ, ◌+◌, ◌*◌, ◌%◌, ◌==◌, List}
use Rattle.std.specs.List.{fold, count_by}
use Rattle.ynl_queues.specs.Written.{WrittenRow, above}

-- the bucket of a text, of 4,096: a hash of its bytes
abbrev pub bucket_of : List ℕ → ℕ
bucket_of text = fold (λ bucket b. (bucket * 31 + b) % 4096) 0 text

-- the bucket of a row: that of its text but for the last part
abbrev pub bucket_of_row : WrittenRow → ℕ
bucket_of_row row = bucket_of (above row.path)

-- how many rows are in a bucket
abbrev pub count_in_bucket : List WrittenRow → ℕ → ℕ
count_in_bucket rows bucket = count_by (λ row. bucket_of_row row == bucket) rows
