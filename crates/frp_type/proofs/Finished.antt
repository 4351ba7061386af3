-- What the checker has at the end is what the file means.
use Rattle.std.proofs.Common.{◌≡◌, ℕ, true, List, [], ◌∷◌, ◌++◌, map, None, Ok, refl, sym, ap, ◌∙◌, subst}
use Rattle.std.proofs.lemmas.List.{map-append}
use Rattle.frp_base.specs.declared.name.Name.{Name}
use Rattle.frp_expr.specs.Raw.{ExprOutcome, ◌>>=◌}
use Rattle.frp_file.specs.declared.file.Decl.{Decl}
use Rattle.frp_file.specs.declared.file.Decl.TheVariants as d
use Rattle.frp_file.specs.declared.file.File.{File}
use Rattle.frp_file.specs.declared.file.ItemForm.{ItemForm}
use Rattle.frp_file.specs.declared.file.ItemForm.TheVariants.{Sink, Let}
use Rattle.frp_file.specs.declared.file.ShapeForm.{ShapeForm}
use Rattle.frp_file.specs.declared.file.ShapeForm.TheVariants.{Loops, Loopc}
use Rattle.frp_graph.specs.declared.prog.Line3.TheVariants.{Node}
use Rattle.frp_graph.specs.declared.prog.Prog.{Prog}
use Rattle.frp_graph.specs.declared.trace.Fact.{Fact}
use Rattle.frp_graph.specs.TypedProg.{IsTypedProg}
use Rattle.frp_type.specs.Core.{is_core}
use Rattle.frp_type.specs.Known.{Known, nothing, shape_typing, all_declared}
use Rattle.frp_type.specs.Faults.{all_tied, listened, scripted, checked}
use Rattle.frp_type.specs.Meaning.{known_with, known_after, each, or_int, line_shape, item_lines, lines_of, ties_of, prog_of, labels_from, references_from, node_named, sent_over, typed_by, meaning}
use Rattle.frp_type.specs.States.{known_of, StandsFor, tie_shape, tie_line, prog_in, IsTypedFile}
use Rattle.frp_type.specs.declared.state.State.{State}
use Rattle.frp_type.specs.declared.typed.Label.{Label}
use Rattle.frp_type.specs.declared.typed.Typed.{Typed}
use Rattle.frp_type.proofs.TypedShapes.{}
use Rattle.frp_type.proofs.TypedFiles.{step, after_is, faultless}
use Rattle.frp_type.proofs.WrittenTypes.{ok_same}

-- a shape's line, tied, is the line where these are the ties
shape_tied : (ties : List (ℕ × ℕ)) (k : Known) (sh : ShapeForm) → line_shape ties k sh ≡ tie_shape ties (line_shape [] k sh)
shape_tied ties k (Loops ty) = refl
shape_tied ties k (Loopc ty) = refl
shape_tied ties k _ = refl

lines_tied : (ties : List (ℕ × ℕ)) (k : Known) (x : Decl) → lines_of ties k x ≡ map (tie_line ties) (lines_of [] k x)
lines_tied ties k (d.Item i) = item_tied i.form where
  item_tied : (i : ItemForm) → item_lines ties k i ≡ map (tie_line ties) (item_lines [] k i)
  item_tied (Sink v ty) = refl
  item_tied (Let v shape) = ap (λ sh. Node (or_int (shape_typing k.funs k.names shape.form)) sh ∷ []) (shape_tied ties k shape.form)
  item_tied _ = refl
lines_tied ties k (d.Function f) = refl
lines_tied ties k (d.Template x) = refl

all_lines_tied : (ties : List (ℕ × ℕ)) (k : Known) (ds : List Decl) → each (lines_of ties) k ds ≡ map (tie_line ties) (each (lines_of []) k ds)
all_lines_tied ties k [] = refl
all_lines_tied ties k (x ∷ ds) =
    ap (λ ls. ls ++ each (lines_of ties) (known_with k x) ds) (lines_tied ties k x) ∙ ap (λ ls. map (tie_line ties) (lines_of [] k x) ++ ls) (all_lines_tied ties (known_with k x) ds)
    ∙ sym (map-append (tie_line ties) (lines_of [] k x) (each (lines_of []) (known_with k x) ds))

known_is : (ds : List Decl) (k m : Known) → all_declared k ds ≡ Ok m → known_after k ds ≡ m
known_is [] k m e = ok_same e
known_is (x ∷ ds) k m e = let s = step k m x ds e in ap (λ (n : Known). known_after n ds) (after_is k s.0 x s.1) ∙ known_is ds s.0 m s.2

-- the program of the state
prog_is : (ds : List Decl) (s : State) → StandsFor s ds → prog_in s ≡ prog_of ds
prog_is ds s h =
    let lines : map (tie_line s.ties) s.lines ≡ each (lines_of (each ties_of nothing ds)) nothing ds =
    ap (λ ts. map (tie_line ts) s.lines) h.ties ∙ ap (map (tie_line (each ties_of nothing ds))) h.lines ∙ sym (all_lines_tied (each ties_of nothing ds) nothing ds) in
    (λ i. record { codes = h.codes i; funs = h.funs i; templates = []; body = record { param = None; kept = []; lines = lines i; give = None }; joins = [] })

pub finished : (f : File) (s : State) (prog : Prog) (labels : List Label) (listens : List Name) (scripts : List (List Fact)) → is_core f ≡ true → StandsFor s f.graph.decls
    → all_declared nothing f.graph.decls ≡ Ok (known_of s) → all_tied s.loops ≡ Ok tt → listened (known_of s) f.listens ≡ Ok tt → scripted (known_of s) f.senders ≡ Ok tt
    → prog ≡ prog_in s → labels ≡ labels_from 0 s.scope.names → listens ≡ map (λ l. node_named (known_of s) l.name) f.listens
    → scripts ≡ map (λ x. map (sent_over (known_of s) (references_from 0 s.scope.names)) x.sends) f.senders
    → IsTypedFile f (record { prog = prog; labels = labels; listens = listens; scripts = scripts })
finished f s prog labels listens scripts c h a b l r p q u w =
    let k : Known = known_of s in
    let fine : checked f ≡ Ok k =
    ap (λ (o : ExprOutcome Known). o >>= λ k. all_tied k.loops >>= λ _. listened k f.listens >>= λ _. scripted k f.senders >>= λ _. Ok k) a
    ∙ ap (λ (o : ExprOutcome (Unit {0})). o >>= λ _. listened k f.listens >>= λ _. scripted k f.senders >>= λ _. Ok k) b
    ∙ ap (λ (o : ExprOutcome (Unit {0})). o >>= λ _. scripted k f.senders >>= λ _. Ok k) l
    ∙ ap (λ (o : ExprOutcome (Unit {0})). o >>= λ _. Ok k) r in
    let means : record { prog = prog; labels = labels; listens = listens; scripts = scripts } ≡ meaning f =
    (λ i. record { prog = p i; labels = q i; listens = u i; scripts = w i }) ∙ ap (λ (g : Prog). record { prog = g; labels = labels_from 0 s.scope.names; listens = map (λ l. node_named k l.name) f.listens; scripts = map (λ x. map (sent_over k (references_from 0 s.scope.names)) x.sends) f.senders }) (prog_is f.graph.decls s h)
    ∙ ap (λ (m : Known). typed_by m f) (sym (known_is f.graph.decls nothing k a)) in
    record { known = k; faultless = fine; means = means; typed = subst IsTypedProg (sym (ap (λ (t : Typed). t.prog) means)) (faultless f k c fine) }
