-- What is sent to a sink at a time, of more sends than some: those at other times change nothing.
use Rattle.std.proofs.Common.{◌≡◌, false, List, [], ◌∷◌, ◌++◌, map, refl, ap, ◌∙◌}
use Rattle.std.specs.Prelude.{◌&&◌, filter}
use Rattle.std.specs.List.{AllByRecursion}
use Rattle.std.proofs.lemmas.List.{append-nil, map-append}
use Rattle.std.proofs.lemmas.List.Elements.{filter-append}
use Rattle.frp_base.specs.declared.time.Time.{Time}
use Rattle.frp_base.specs.declared.name.Name.{Name}
use Rattle.frp_base.specs.Time.{time_eq}
use Rattle.frp_base.specs.Name.{name_eq}
use Rattle.frp_graph.specs.declared.trace.Node.{Node}
use Rattle.frp_graph.specs.declared.trace.Moment.{Moment}
use Rattle.frp_graph.specs.declared.trace.Sent.{Sent}
use Rattle.frp_graph.specs.declared.prog.Prog.{Prog}
use Rattle.frp_graph.specs.declared.shape.Shape.{Shape}
use Rattle.frp_graph.specs.declared.shape.Shape.TheVariants.{Sink}
use Rattle.frp_graph.specs.Trace.{Sight, sight_of}
use Rattle.frp_graph.specs.Sends.{sent_values, combined, join_of, sent_in}
use Rattle.frp_graph.specs.Equations.{row}
use Rattle.frp_graph.specs.Moments.{AtEach, IsMoment}

-- none of these sends is at the time
abbrev pub NotAt : Time → List Sent → Type 0
NotAt t sends = AllByRecursion (λ s. time_eq t (s.place ∷ []) ≡ false) sends

pub values_joined : (sends more : List Sent) (t : Time) (n : Name) → sent_values (sends ++ more) t n ≡ sent_values sends t n ++ sent_values more t n
values_joined sends more t n =
    ap (map (λ (s : Sent). s.value)) (filter-append (λ s. time_eq t (s.place ∷ []) && name_eq s.sink n) sends more)
    ∙ map-append (λ (s : Sent). s.value) (filter (λ s. time_eq t (s.place ∷ []) && name_eq s.sink n) sends) (filter (λ s. time_eq t (s.place ∷ []) && name_eq s.sink n) more)

pub values_none : (sends : List Sent) (t : Time) (n : Name) → NotAt t sends → sent_values sends t n ≡ []
values_none [] t n h = refl
values_none (s ∷ sends) t n h = rw h.0 (values_none sends t n h.1)

-- more sends, at other times, change nothing
pub sent_elsewhere : (prog : Prog) (sends more : List Sent) (t : Time) (n : Name) → NotAt t more → sent_in prog (sends ++ more) t n ≡ sent_in prog sends t n
sent_elsewhere prog sends more t n h =
    ap (combined prog (join_of prog n)) (values_joined sends more t n ∙ ap (λ vs. sent_values sends t n ++ vs) (values_none more t n h) ∙ append-nil (sent_values sends t n))

-- at a time of none of the earlier sends the new ones alone count
pub sent_alone : (prog : Prog) (sends more : List Sent) (t : Time) (n : Name) → NotAt t sends → sent_in prog (sends ++ more) t n ≡ sent_in prog more t n
sent_alone prog sends more t n h = ap (combined prog (join_of prog n)) (values_joined sends more t n ∙ ap (λ vs. vs ++ sent_values more t n) (values_none sends t n h))

-- A moment looks at the sends to the sinks at its time.

pub row_sends : (prog : Prog) (sends others : List Sent) (w : Sight) (x : Node) (s : Shape) → ((n : Name) → sent_in prog sends w.time n ≡ sent_in prog others w.time n) → row prog sends w x s ≡ row prog others w x s
row_sends prog sends others w x Sink h = h x.name
row_sends prog sends others w x _ h = refl

pub moment_moved : (prog : Prog) (sends others : List Sent) (past : List Moment) (m : Moment) → ((n : Name) → sent_in prog sends m.time n ≡ sent_in prog others m.time n)
    → IsMoment prog sends past m → IsMoment prog others past m
moment_moved prog sends others past m h i = record {
  born_exactly = i.born_exactly;
  equations = λ n x e. i.equations n x e ∙ row_sends prog sends others (sight_of past m) x x.shape h;
  facts_of_live = i.facts_of_live;
  born_rise = i.born_rise;
  fired_rise = i.fired_rise;
}

pub moments_moved : (prog : Prog) (sends others : List Sent) (R : Moment → Type 0) → ((m : Moment) → R m → (n : Name) → sent_in prog sends m.time n ≡ sent_in prog others m.time n)
    → (past ms : List Moment) → AllByRecursion R ms → AtEach (IsMoment prog sends) past ms → AtEach (IsMoment prog others) past ms
moments_moved prog sends others R f past [] r h = tt
moments_moved prog sends others R f past (m ∷ ms) r h = (moment_moved prog sends others past m (f m r.0) h.0, moments_moved prog sends others R f (past ++ m ∷ []) ms r.1 h.1)
