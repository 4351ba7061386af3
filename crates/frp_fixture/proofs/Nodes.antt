-- What holds of the first nodes, and of one more, and of all of them.
use Rattle.std.proofs.Common.{◌≡◌, ℕ, ◌<◌, ◌≤◌, ◌+◌, List, length, Some, sym, ap, ◌∙◌, subst, arith, inl, inr}
use Rattle.std.specs.Prelude.{slice_get, is_some}
use Rattle.std.proofs.lemmas.Bool.{cases_lt}
use Rattle.frp_graph.specs.declared.trace.Node.{Node}
use Rattle.frp_graph.specs.Views.{AreLive}
use Rattle.frp_graph.proofs.Nodes.{found_named}
use Rattle.frp_links.proofs.Lists.{found_inside}
use Rattle.frp_links.specs.Chains.{HaveBefores}
use Rattle.frp_links.specs.References.{SwitchRefers, SwitchesRefer}
use Rattle.frp_store.specs.State.{State, sight, pre_in}

-- it holds of the first so many nodes
abbrev pub UpTo : (Node → Type 0) → List Node → ℕ → Type 0
UpTo P nodes p = (i : ℕ) (x : Node) → i < p → slice_get nodes i ≡ Some x → P x

pub up_more : (P : Node → Type 0) (nodes : List Node) (p : ℕ) (y : Node) → slice_get nodes p ≡ Some y → P y → UpTo P nodes p → UpTo P nodes (p + 1)
up_more P nodes p y at here up i x l e = elim (cases_lt i p) [
  | inl k ↦ up i x k e
  | inr k ↦
      let s : p ≡ i = omega arith in
      let both : Some y ≡ Some x = sym at ∙ ap (slice_get nodes) s ∙ e in
      let same : y ≡ x = cc in
      subst P same here
]

abbrev pub HasBefore : State → Node → Type 0
HasBefore s x = is_some (pre_in s x.name) ≡ is_some x.first

module _ (s : State) (live : AreLive (sight s) s.nodes) (p : ℕ) (whole : length s.nodes ≤ p) where
  pub have_befores : UpTo (HasBefore s) s.nodes p → HaveBefores (sight s)
  have_befores up n x e =
      let i = live.each n x e in
      let l = found_inside s.nodes i.0 x i.1 in
      let named = found_named s.nodes n x e in
      subst (λ k. is_some (pre_in s k) ≡ is_some x.first) named (up i.0 x (omega arith) i.1)

  pub switches_refer : UpTo (λ x. SwitchRefers (sight s) x.shape) s.nodes p → SwitchesRefer (sight s)
  switches_refer up n x e =
      let i = live.each n x e in
      let l = found_inside s.nodes i.0 x i.1 in
      up i.0 x (omega arith) i.1
