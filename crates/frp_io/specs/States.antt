-- what contracts see of the sources and sinks
use Rattle.std.specs.Prelude.{ℕ, List, Option}

-- a source in memory
pub record SourceState : Type 0 where
  -- the bytes that are left
  pub rest : List ℕ
  -- how many bytes a read gives at most
  pub chunk : ℕ
  -- the numbers of the reads that fail, from 1
  pub failing : List ℕ
  -- how many reads there were, and how many failed
  pub calls : ℕ
  pub faults : ℕ

-- a sink in memory
pub record SinkState : Type 0 where
  -- the bytes that it holds
  pub held : List ℕ
  -- how many bytes a write takes at most, and all writes together
  pub chunk : ℕ
  pub room : ℕ
  -- the numbers of the writes that fail, from 1
  pub failing : List ℕ
  -- how many writes there were, and how many failed
  pub calls : ℕ
  pub faults : ℕ

-- a source or a sink over a stream of std
pub record StreamState : Type 0 where
  -- the bytes that the reader has left or the writer holds, where std knows them
  pub known : Option (List ℕ)
  -- how often it has failed
  pub faults : ℕ
