-- Two sights at one time over the same older nodes, and that they agree on what is known of the one.
use Rattle.std.proofs.Common.{◌≡◌, ◌<◌, Bool, true, false, length, Option, Some, None, refl, sym, ap, ◌∙◌}
use Rattle.std.specs.Prelude.{option_and_then}
use Rattle.frp_base.specs.declared.name.Name.{Name}
use Rattle.frp_base.specs.declared.val.Val.{Val}
use Rattle.frp_base.specs.Time.{time_eq}
use Rattle.frp_base.specs.Name.{birth}
use Rattle.frp_base.proofs.Booleans.{both_true}
use Rattle.frp_graph.specs.declared.prog.Prog.{Prog}
use Rattle.frp_graph.specs.declared.trace.Node.{Node}
use Rattle.frp_graph.specs.Trace.{Sight, node_first}
use Rattle.frp_graph.specs.Links.{is_new}
use Rattle.frp_graph.specs.TypedProg.{is_cell}
use Rattle.frp_graph.specs.Values.{type_among}
use Rattle.frp_graph.specs.WellFormed.{IsWellFormed}
use Rattle.frp_graph.specs.ShapeLaws.{Stays}
use Rattle.frp_graph.proofs.Allowed.{allowed_stays}
use Rattle.frp_graph.proofs.Options.{then_some}
use Rattle.frp_graph.proofs.TypedSights.{Fits, occ_fits, above_fits, before_fits, first_fits}
use Rattle.frp_audit.proofs.Seen.{fits_more, cell_more, Within, bare, seen, shown_seen, type_seen, pre_seen, types_more, shown_allowed, first_kept, IsRight}

-- What is seen at the time is the older nodes as they were, and nodes that are born then.
pub record Extends (old w : Sight) : Type 0 where
  pub time : w.time ≡ old.time
  pub named : (n : Name) (x : Node) → w.node n ≡ Some x → x.name ≡ n
  pub nonempty : (n : Name) (x : Node) → w.node n ≡ Some x → 0 < length n
  pub older : (n : Name) → is_new w n ≡ false → w.node n ≡ old.node n
  pub older_pre : (n : Name) → is_new w n ≡ false → w.pre n ≡ old.pre n
  pub none_older : (n : Name) → is_new w n ≡ true → old.node n ≡ None
  pub none_above : (n : Name) → is_new w n ≡ true → old.above n ≡ None
  pub first : (n : Name) → is_new w n ≡ true → w.pre n ≡ option_and_then node_first (w.node n)
  pub above : (n : Name) → w.above n ≡ old.above n
  pub only_live : (n : Name) (v : Val) → w.occ n ≡ Some v → (x : Node) × (w.node n ≡ Some x)

-- a node is one that is there, with the first value that it has where it has one
pub record IsSame (x : Node) (o : Option Node) : Type 0 where
  pub node : Node
  pub found : o ≡ Some node
  pub name : node.name ≡ x.name
  pub shape : node.shape ≡ x.shape
  pub ty : node.ty ≡ x.ty
  pub first : is_cell x.ty ≡ true → (v : Val) → x.first ≡ Some v → node.first ≡ Some v

-- whether a name is of a cell that is seen: only those have first values and values before
abbrev pub of_cell : Option Node → Bool
of_cell None = false
of_cell (Some x) = is_cell x.ty

abbrev pub holds : Sight → Name → Bool
holds w n = of_cell (w.node n)

pub holds_cell : (w : Sight) (n : Name) (x : Node) → w.node n ≡ Some x → holds w n ≡ true → is_cell x.ty ≡ true
holds_cell w n x e h = rw e at h

pub cell_holds : (w : Sight) (n : Name) (x : Node) → w.node n ≡ Some x → is_cell x.ty ≡ true → holds w n ≡ true
cell_holds w n x e h = rw e h

-- Of the one sight some nodes are shown and some have fired: so far it is well formed, and the other has the same.
pub record Agrees (prog : Prog) (w u : Sight) (shown fired : Name → Bool) : Type 0 where
  pub formed : IsWellFormed prog (seen w shown (holds w) fired)
  pub same : (n : Name) (x : Node) → shown n ≡ true → w.node n ≡ Some x → IsSame x (u.node n)
  pub occs : (n : Name) (x : Node) → fired n ≡ true → w.node n ≡ Some x → u.occ n ≡ w.occ n
  pub within : (n : Name) (x : Node) → fired n ≡ true → w.node n ≡ Some x → shown n ≡ true

module _ (prog : Prog) (w : Sight) (shown fired : Name → Bool) (formed : IsWellFormed prog (seen w shown (holds w) fired)) where
  abbrev known : Sight
  known = seen w shown (holds w) fired

  module _ (more kept also : Name → Bool) (within : Within shown more) (held : Within kept (holds w)) (n : Name) (x : Node) (s : shown n ≡ true) (e : w.node n ≡ Some x) where
    types : Stays (type_among known.node) (type_among (seen w more kept also).node)
    types = types_more w shown more (holds w) kept fired also within

    of_type : type_among known.node n ≡ Some x.ty
    of_type = type_seen w shown (holds w) fired n x s e

    pre_is : kept n ≡ true → (v : Val) → w.pre n ≡ Some v → known.pre n ≡ Some v
    pre_is k v p = let h = held n k in rw (s, h) p

    occ_is : (v : Val) → fired n ≡ true → w.occ n ≡ Some v → known.occ n ≡ Some v
    occ_is v f o = rw f o

    abbrev then : Sight
    then = seen w more kept also

    -- what is right of a node stays right where more is shown, whatever is right of what fires
    pub right_with : (also n ≡ true → (v : Val) → w.occ n ≡ Some v → Fits prog then x.ty v) → IsRight prog w more kept also n x
    right_with f = record {
      allowed = allowed_stays prog known then types x.ty x.shape (shown_allowed prog w shown (holds w) fired n x formed s e);
      first = λ k v p.
          cell_more prog known then types x.ty v
          (first_fits prog known formed n x.ty v of_type (bare (holds w n) x) (shown_seen w shown (holds w) fired n x s e) (first_kept (holds w n) x v (held n k) p));
      before = λ k v p. cell_more prog known then types x.ty v (before_fits prog known formed n x.ty v of_type (pre_is k v p));
      occurs = f;
      above = λ v p. fits_more prog known then types x.ty v (above_fits prog known formed n x.ty v of_type p);
    }

    pub right_more : (also n ≡ true → fired n ≡ true) → IsRight prog w more kept also n x
    right_more f = right_with (λ a v p. fits_more prog known then types x.ty v (occ_fits prog known formed n x.ty v of_type (occ_is v (f a) p)))

-- Where two sights extend one, and the other has what is shown of the one, it has the values before.
module _ (prog : Prog) (old w u : Sight) (ew : Extends old w) (eu : Extends old u) where
  pub same_new : (n : Name) → is_new u n ≡ is_new w n
  same_new n = ap (time_eq (birth n)) (eu.time ∙ sym ew.time)

  -- a value before, where it is known that a first value is the same
  pub pre_same : (n : Name) (v : Val) → ((x : Node) → w.node n ≡ Some x → x.first ≡ Some v → (y : Node) × (u.node n ≡ Some y) × (y.first ≡ Some v)) → w.pre n ≡ Some v → u.pre n ≡ Some v
  pre_same n v f e = by (is_new w n) refl where
    by : (b : Bool) → is_new w n ≡ b → u.pre n ≡ Some v
    by false b = eu.older_pre n (same_new n ∙ b) ∙ sym (ew.older_pre n b) ∙ e
    by true b =
        let x = then_some node_first (w.node n) v (sym (ew.first n b) ∙ e) in
        let y = f x.0 x.1 x.2 in
        eu.first n (same_new n ∙ b) ∙ ap (option_and_then node_first) y.1 ∙ y.2

  module _ (shown fired : Name → Bool) (agrees : Agrees prog w u shown fired) where
    pub pre_stays : Stays (seen w shown (holds w) fired).pre u.pre
    pre_stays n v e =
        let p = pre_seen w shown (holds w) fired n v e in
        pre_same n v (λ x f g. let q = both_true _ _ p.0 in let s = agrees.same n x q.0 f in (s.node, s.found, s.first (holds_cell w n x f q.1) v g)) p.1
