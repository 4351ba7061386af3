-- Sessions: the histories that a file's listeners and senders make.
use Rattle.std.specs.Prelude.{◌≡◌, ℕ, suc, ◌==◌, List, [], ◌∷◌, ◌++◌, map, filter, slice_index_or}
use Rattle.frp_base.specs.declared.name.Name.{Name}
use Rattle.frp_history.specs.declared.history.Key.{Key}
use Rattle.frp_history.specs.declared.history.Cmd.{Cmd}
use Rattle.frp_history.specs.declared.history.Cmd.TheVariants.{Join, Leave}
use Rattle.frp_history.specs.declared.history.Reply.{Reply}
use Rattle.frp_history.specs.declared.history.Reply.TheVariants.{Accepted, Refused, Joined, Given, Left}
use Rattle.frp_history.specs.declared.history.Entry.{Entry}

-- a caller's command
pub record Call : Type 0 where
  pub caller : ℕ
  pub cmd : Cmd

abbrev pub calls : List Entry → List Call
calls = map (λ e. record { caller = e.caller; cmd = e.cmd })

abbrev pub calls_of : ℕ → List Entry → List Cmd
calls_of caller entries = map (λ e. e.cmd) (filter (λ e. e.caller == caller) entries)

abbrev pub key_of : Reply → List Key
key_of (Joined key) = key ∷ []
key_of (Accepted moments) = []
key_of (Refused refusal) = []
key_of (Given items) = []
key_of (Left items) = []

-- the keys that were given
abbrev pub keys_of : List Entry → List Key
keys_of [] = []
keys_of (e ∷ es) = key_of e.reply ++ keys_of es

-- Caller 0 joins each listener in order. Then come the sends and groups of the scripts, those of the first script by caller 1
-- and so on, each script's in order, and in any order between callers. Then caller 0 leaves with the keys of its joins, in
-- order.
pub record IsSession (listens : List Name) (scripts : List (List Cmd)) (entries : List Entry) : Type 0 where
  pub joins : List Entry
  pub sends : List Entry
  pub leaves : List Entry
  pub in_order : entries ≡ joins ++ sends ++ leaves
  pub joined : calls joins ≡ map (λ n. record { caller = 0; cmd = Join n }) listens
  pub sent : (i : ℕ) → calls_of (suc i) sends ≡ slice_index_or scripts i []
  pub only_scripts : calls_of 0 sends ≡ []
  pub left : calls leaves ≡ map (λ k. record { caller = 0; cmd = Leave k }) (keys_of joins)
