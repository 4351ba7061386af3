-- Changes and what undoes them.
use Rattle.std.proofs.Common.{◌≡◌, ℕ, ◌<◌, ◌≤◌, List, [], ◌∷◌, ◌++◌, length, length-set, get_or, set, take, suc, zero, refl, sym, ap, ◌∙◌, arith, Option, Some}
use Rattle.std.specs.List.{slice_get}
use Rattle.std.proofs.lemmas.Option.{get_or_from_slice_get, slice_get_within}
use Rattle.frp_rank.specs.declared.change.Change.{Change}
use Rattle.std.proofs.Math.Seq.{take-length}
use Rattle.frp_rank.specs.declared.change.Change.TheVariants.{Ranked, EndedBy, StartedBy, Edged}
use Rattle.frp_rank.specs.Graph.{Net, undo, undo_all, cut_to}

-- the newest change is undone first
pub undo_push : (cs : List Change) (c : Change) (n : Net) → undo_all (cs ++ c ∷ []) n ≡ undo_all cs (undo c n)
undo_push [] c n = refl
undo_push (d ∷ cs) c n = ap (undo d) (undo_push cs c n)

-- a change more, which undoes to what was before
pub pushed_base : (cs new : List Change) (c : Change) (n old : Net) → new ≡ cs ++ c ∷ [] → undo c n ≡ old → undo_all new n ≡ undo_all cs old
pushed_base cs new c n old e u = ap (λ l. undo_all l n) e ∙ undo_push cs c n ∙ ap (undo_all cs) u

-- a change fewer, once it is undone
pub popped_base : (cs rest : List Change) (c : Change) (n new : Net) → cs ≡ rest ++ c ∷ [] → undo c n ≡ new → undo_all rest new ≡ undo_all cs n
popped_base cs rest c n new e u = sym (pushed_base rest cs c n new e u)

back_at : {X : Type 0} (m i : ℕ) (xs : List X) (v old d : X) → get_or xs i d ≡ old → i < length xs → set (take m (set xs i v)) i old ≡ take m xs
back_at zero i xs v old d e l = refl
back_at (suc m) i [] v old d e l = absurd (omega arith)
back_at (suc m) zero (x ∷ xs) v old d e l = ap (λ o. o ∷ take m xs) (sym e)
back_at (suc m) (suc i) (x ∷ xs) v old d e l = ap (λ ys. x ∷ ys) (back_at m i xs v old d e (omega arith))

-- what was there is written back
pub written_back : {X : Type 0} (m i : ℕ) (xs : List X) (v old : X) → slice_get xs i ≡ Some old → set (take m (set xs i v)) i old ≡ take m xs
written_back m i xs v old h = back_at m i xs v old old (get_or_from_slice_get xs i old old h) (slice_get_within xs i old h)

-- Lengths stay while changes are undone.

undo_ranks : (c : Change) (n : Net) → length (undo c n).ranks ≡ length n.ranks
undo_ranks (Ranked p r) n = length-set n.ranks p r
undo_ranks (EndedBy p e) n = refl
undo_ranks (StartedBy p e) n = refl
undo_ranks (Edged i e) n = refl

undo_edges : (c : Change) (n : Net) → length (undo c n).edges ≡ length n.edges
undo_edges (Ranked p r) n = refl
undo_edges (EndedBy p e) n = refl
undo_edges (StartedBy p e) n = refl
undo_edges (Edged i e) n = length-set n.edges i e

pub undone_ranks : (cs : List Change) (n : Net) → length (undo_all cs n).ranks ≡ length n.ranks
undone_ranks [] n = refl
undone_ranks (c ∷ cs) n = undo_ranks c (undo_all cs n) ∙ undone_ranks cs n

pub undone_edges : (cs : List Change) (n : Net) → length (undo_all cs n).edges ≡ length n.edges
undone_edges [] n = refl
undone_edges (c ∷ cs) n = undo_edges c (undo_all cs n) ∙ undone_edges cs n

take_whole : {X : Type 0} (n : ℕ) (xs : List X) → length xs ≡ n → take n xs ≡ xs
take_whole n xs h = ap (λ k. take k xs) (sym h) ∙ take-length xs

-- a cut to its own lengths changes nothing
pub cut_whole : (n : Net) (places edges : ℕ) → length n.ranks ≡ places → length n.last_in ≡ places → length n.last_out ≡ places → length n.edges ≡ edges → cut_to places edges n ≡ n
cut_whole n places edges a b c d =
    ap (λ x. record { ranks = x; last_in = take places n.last_in; last_out = take places n.last_out; edges = take edges n.edges }) (take_whole places n.ranks a)
    ∙ ap (λ x. record { ranks = n.ranks; last_in = x; last_out = take places n.last_out; edges = take edges n.edges }) (take_whole places n.last_in b)
    ∙ ap (λ x. record { ranks = n.ranks; last_in = n.last_in; last_out = x; edges = take edges n.edges }) (take_whole places n.last_out c)
    ∙ ap (λ x. record { ranks = n.ranks; last_in = n.last_in; last_out = n.last_out; edges = x }) (take_whole edges n.edges d)
