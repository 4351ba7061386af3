-- What a listener that is held is: the entry at the place of its key joined with this key.
use Rattle.std.proofs.Common.{◌≡◌, ℕ, ◌≤◌, suc, zero, Bool, true, false, List, [], ◌∷◌, length, Option, Some, None, refl, arith}
use Rattle.std.specs.Prelude.{slice_get, if◌then◌else◌}
use Rattle.frp_history.specs.declared.history.Key.{Key}
use Rattle.frp_history.specs.declared.history.Entry.{Entry}
use Rattle.frp_history.specs.History.{entry_at}
use Rattle.frp_history.specs.Listeners.{Listener, joined_by, joined_in}

pub entry_bound : (es : List Entry) (p : ℕ) (e : Entry) → entry_at es p ≡ Some e → p ≤ length es
entry_bound es zero e h = omega arith
entry_bound es (suc p) e h = bound es p h where
  bound : (xs : List Entry) (i : ℕ) → slice_get xs i ≡ Some e → suc i ≤ length xs
  bound [] zero h = absurd (cc)
  bound [] (suc i) h = absurd (cc)
  bound (x ∷ xs) zero h = omega arith
  bound (x ∷ xs) (suc i) h = let k : suc i ≤ length xs = bound xs i h in omega arith

pub record IsJoin (es : List Entry) (key : Key) (l : Listener) : Type 0 where
  pub entry : Entry
  pub at : entry_at es key.place ≡ Some entry
  pub joined : joined_by key entry.caller entry.cmd entry.reply ≡ Some l

join_of : (es : List Entry) (key : Key) (l : Listener) (o : Option Entry) → entry_at es key.place ≡ o → joined_in key o ≡ Some l → IsJoin es key l
join_of es key l None e h = absurd cc
join_of es key l (Some d) e h = record { entry = d; at = e; joined = h }

pub held_join : (es : List Entry) (key : Key) (b : Bool) (l : Listener) → (if b then None else joined_in key (entry_at es key.place)) ≡ Some l → IsJoin es key l
held_join es key true l h = absurd cc
held_join es key false l h = join_of es key l (entry_at es key.place) refl h
