-- Sources and sinks in memory, as their callers see them.
-- Their calls are numbered from 1, and a call past the last value of u64 has no number.
use Rattle.std.specs.Prelude.{◌≡◌, ◌+◌, ◌-◌, ◌^◌, ◌<◌, ◌++◌, ℕ, min, Result, Ok, Err}
use Rattle.std.specs.Prelude.{List, length, take, drop}
use Rattle.std.specs.List.{Contains}
use Rattle.ff_io.specs.Causes.{next_count, faults_after}

-- how many calls there were, up to the last value of u64, the numbers of those that fail, and the
-- count of faults
pub record Calls : Type 0 where
  pub count : ℕ
  pub fails : List ℕ
  pub faults : ℕ

-- the next call has a number, and that is among those that fail
abbrev pub FailsNext : Calls → Type 0
FailsNext calls = (calls.count < 2 ^ 64 - 1) × Contains calls.fails (calls.count + 1)

-- one more call was made, with this result
abbrev pub calls_after : {T E : Type 0} → Result T E → Calls → Calls
calls_after result calls = record {
  count = next_count calls.count;
  fails = calls.fails;
  faults = faults_after result calls.faults;
}

-- how many bytes a call with this result moved: none where it failed
abbrev pub count_of : {E : Type 0} → Result ℕ E → ℕ
count_of (Ok count) = count
count_of (Err e) = 0

-- a source: the bytes that are left, the most that one call gives, and the calls so far
pub record SourceState : Type 0 where
  pub left : List ℕ
  pub chunk : ℕ
  pub calls : Calls

-- as many bytes as the chunk, the buffer and what is left allow
abbrev pub read_count : SourceState → List ℕ → ℕ
read_count source buf = min source.chunk (min (length buf) (length source.left))

-- a source after a call with this result
abbrev pub source_after : {E : Type 0} → Result ℕ E → SourceState → SourceState
source_after result source = record {
  left = drop (count_of result) source.left;
  chunk = source.chunk;
  calls = calls_after result source.calls;
}

-- a sink: the bytes that it took, how many more it has room for, the most that one call takes, and
-- the calls so far
pub record SinkState : Type 0 where
  pub written : List ℕ
  pub room : ℕ
  pub chunk : ℕ
  pub calls : Calls

-- there are bytes to take, and no room is left
abbrev pub IsFullFor : SinkState → List ℕ → Type 0
IsFullFor sink bytes = (0 < length bytes) × (sink.room ≡ 0)

-- as many bytes as the chunk, the bytes and the room left allow
abbrev pub write_count : SinkState → List ℕ → ℕ
write_count sink bytes = min sink.chunk (min (length bytes) sink.room)

-- a sink after a call with these bytes and this result
abbrev pub sink_after : {E : Type 0} → Result ℕ E → List ℕ → SinkState → SinkState
sink_after result bytes sink = record {
  written = sink.written ++ take (count_of result) bytes;
  room = sink.room - count_of result;
  chunk = sink.chunk;
  calls = calls_after result sink.calls;
}
