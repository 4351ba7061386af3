-- What was understood can be run.
use Rattle.std.proofs.Common.{◌≡◌, ℕ, ◌+◌, ◌*◌, ◌<◌, ◌≤◌, ◌^◌, Bool, true, false, List, [], ◌∷◌, ◌++◌, map, length, Option, Some, Result, Ok, Err, refl, sym, ap, ◌∙◌, subst, arith, length-append, zero-add}
use Rattle.std.specs.Prelude.{IfSome, if◌then◌else◌}
use Rattle.std.specs.List.{AllByRecursion, list_all}
use Rattle.std.proofs.lemmas.List.{length-map, length_push}
use Rattle.std.proofs.lemmas.List.Folds.{list_all-append}
use Rattle.frp_base.specs.declared.text.Text.{Text}
use Rattle.frp_base.specs.declared.ty.Ty.{Ty}
use Rattle.frp_base.specs.Name.{declared_name}
use Rattle.frp_lex.specs.declared.token.Token.{Token}
use Rattle.frp_lex.specs.Tokens.{tokens}
use Rattle.frp_lex.proofs.Canonical.{lexed_is_lawful_lem}
use Rattle.frp_expr.specs.Raw.{◌>>=◌ as ◌>>?◌}
use Rattle.frp_expr.specs.Scope.{Named, place_of, number_of, names_of}
use Rattle.frp_expr.proofs.Places.{places_within}
use Rattle.frp_base.proofs.Booleans.{both_true, true_both}
use Rattle.frp_file.specs.declared.file.Decl.{Decl}
use Rattle.frp_file.specs.declared.file.Decl.TheVariants as d
use Rattle.frp_file.specs.declared.file.File.{File}
use Rattle.frp_file.specs.declared.file.ItemForm.{ItemForm}
use Rattle.frp_file.specs.declared.file.ItemForm.TheVariants.{Sink, Let, Tie, Cellsink, Get}
use Rattle.frp_file.specs.declared.file.ShapeForm.{ShapeForm}
use Rattle.frp_file.specs.declared.file.ShapeForm.TheVariants.{Never, Map, Filter, Hold}
use Rattle.frp_file.specs.declared.file.Listen.{Listen}
use Rattle.frp_file.specs.declared.file.RawSend.{RawSend}
use Rattle.frp_file.specs.declared.file.Sender.{Sender}
use Rattle.frp_graph.specs.declared.trace.Fact.{Fact}
use Rattle.frp_graph.specs.TypedProg.{IsTypedProg}
use Rattle.frp_file.specs.LawfulParts.{are_shape_parts_lawful, are_item_parts_lawful, are_decl_parts_lawful, has_lawful_parts}
use Rattle.frp_form.specs.File.{file_of}
use Rattle.frp_form.proofs.LawfulReading.{parts_are_lawful_lem}
use Rattle.frp_form.proofs.Counts.{listens_are_few_lem, one_sender_lem, sends_are_few_lem}
use Rattle.frp_form.proofs.Lengths.{tokens_are_few_lem}
use Rattle.frp_sugar.specs.Expanding.{expanded}
use Rattle.frp_sugar.proofs.LawfulKept.{lawful_kept}
use Rattle.frp_core.specs.Small.{is_built, is_built_shape, is_built_line}
use Rattle.frp_type.specs.Core.{is_core, is_core_decl, is_core_item, is_core_shape}
use Rattle.frp_type.specs.Faults.{all_tied, listened, scripted, checked}
use Rattle.frp_type.specs.Known.{Known, nothing, named, declared, all_declared, item_known}
use Rattle.frp_type.specs.Meaning.{each, known_with, line_shape, item_lines, lines_of, ties_of, known_after, node_named, sent_over, references_from, meaning}
use Rattle.frp_type.specs.declared.typed.Typed.{Typed}
use Rattle.frp_type.proofs.TypedFiles.{step, after_is, sink_ok, let_ok, tie_known, fun_ok, faultless}
use Rattle.frp_run.specs.Texts.{TextOutcome, ◌>>=◌, with_fault, reading, file_in, is_built_form, is_built_item, is_built_decl, is_built_file, typed_file, understood}
use Rattle.frp_run.specs.Runs.{first_script, IsRunnable}
use Rattle.frp_run.specs.declared.modes.Mode.{Mode}
use Rattle.frp_run.specs.declared.refused.Fault.{Fault}
use Rattle.frp_run.specs.declared.refused.Fault.TheVariants as f
use Rattle.frp_run.specs.declared.refused.Refused.TheVariants as why
use Rattle.frp_run.specs.declared.understood.Understood.{Understood}

-- The lines of declarations that are built make nodes that are.
module _ (ties : List (ℕ × ℕ)) where
  shape_built : (k : Known) (form : ShapeForm) → is_built_form form ≡ true → is_built_shape (line_shape ties k form) ≡ true
  shape_built k (Never ty) h = refl
  shape_built k (Map x s e) h = refl
  shape_built k (Filter x s e) h = refl
  shape_built k (Hold o s) h = refl
  shape_built k _ h = absurd cc

  item_built : (k : Known) (i : ItemForm) → is_built_item i ≡ true → list_all is_built_line (item_lines ties k i) ≡ true
  item_built k (Sink n ty) h = refl
  item_built k (Let n shape) h = true_both _ _ (shape_built k shape.form h) refl
  item_built k _ h = absurd cc

  decl_built : (k : Known) (d : Decl) → is_built_decl d ≡ true → list_all is_built_line (lines_of ties k d) ≡ true
  decl_built k (d.Function f) h = refl
  decl_built k (d.Item i) h = item_built k i.form h
  decl_built k (d.Template t) h = refl

  pub lines_built : (k : Known) (ds : List Decl) → list_all is_built_decl ds ≡ true → list_all is_built_line (each (lines_of ties) k ds) ≡ true
  lines_built k [] h = refl
  lines_built k (d ∷ ds) h =
      let two = both_true _ _ h in
      list_all-append is_built_line (lines_of ties k d) (each (lines_of ties) (known_with k d) ds) ∙ true_both _ _ (decl_built k d two.0) (lines_built (known_with k d) ds two.1)

-- Steps that went well.

pub step_ok : {A B : Type 0} (o : TextOutcome A) (g : A → TextOutcome B) (x : B) → (o >>= g) ≡ Ok x → (a : A) × ((o ≡ Ok a) × (g a ≡ Ok x))
step_ok (Ok a) g x e = (a, (refl, e))
step_ok (Err why) g x e = absurd cc

pub fault_ok : {A E : Type 0} (g : E → Fault) (o : Result A E) (x : A) → with_fault g o ≡ Ok x → o ≡ Ok x
fault_ok g (Ok a) x e = cc
fault_ok g (Err why) x e = absurd cc

-- a file that was read has these tokens
pub file_read : (mode : Mode) (bytes : List ℕ) (file : File) → file_in mode bytes ≡ Ok file
    → (ts : List Token) × ((tokens bytes ≡ Ok ts) × (file_of (length bytes) (reading mode) ts ≡ Ok file))
file_read mode bytes file e =
    let p = step_ok (with_fault f.Token (tokens bytes)) (λ ts. with_fault f.Form (file_of (length bytes) (reading mode) ts)) file e in
    (p.0, (fault_ok f.Token (tokens bytes) p.0 p.1.0, fault_ok f.Form (file_of (length bytes) (reading mode) p.0) file p.1.1))

-- Its core items that are built are what the checker asks for.

core_form : (form : ShapeForm) → is_built_form form ≡ true → are_shape_parts_lawful form ≡ true → is_core_shape form ≡ true
core_form (Never ty) b h = refl
core_form (Map x s e) b h = h
core_form (Filter x s e) b h = h
core_form (Hold o s) b h = h
core_form _ b h = absurd cc

core_item : (i : ItemForm) → is_built_item i ≡ true → are_item_parts_lawful i ≡ true → is_core_item i ≡ true
core_item (Sink n ty) b h = refl
core_item (Let n shape) b h = core_form shape.form b h
core_item _ b h = absurd cc

core_decl : (d : Decl) → is_built_decl d ≡ true → are_decl_parts_lawful d ≡ true → is_core_decl d ≡ true
core_decl (d.Function x) b h = h
core_decl (d.Item i) b h = core_item i.form b h
core_decl (d.Template t) b h = absurd cc

core_decls : (ds : List Decl) → list_all is_built_decl ds ≡ true → list_all are_decl_parts_lawful ds ≡ true → list_all is_core_decl ds ≡ true
core_decls [] b h = refl
core_decls (d ∷ ds) b h =
    let p = both_true _ _ b in
    let q = both_true _ _ h in
    true_both _ _ (core_decl d p.0 q.0) (core_decls ds p.1 q.1)

pub core_of : (mode : Mode) (bytes : List ℕ) (file core : File) → file_in mode bytes ≡ Ok file → core ≡ expanded file → is_built_file core ≡ true → is_core core ≡ true
core_of mode bytes file core e same b =
    let p = file_read mode bytes file e in
    let lawful : has_lawful_parts file ≡ true = parts_are_lawful_lem (length bytes) (reading mode) p.0 file (lexed_is_lawful_lem bytes p.0 p.1.0) p.1.1 in
    let parts : has_lawful_parts core ≡ true = ap has_lawful_parts same ∙ lawful_kept file lawful in
    let two = both_true _ _ parts in
    true_both _ _ (core_decls core.graph.decls b two.0) two.1

-- What was understood, in its steps.
pub record Steps (mode : Mode) (bytes : List ℕ) (u : Understood) : Type 0 where
  pub ts : List Token
  pub known : Known
  pub lexed : tokens bytes ≡ Ok ts
  pub read : file_of (length bytes) (reading mode) ts ≡ Ok u.file
  pub core : is_core (expanded u.file) ≡ true
  pub built : is_built_file (expanded u.file) ≡ true
  pub faultless : checked (expanded u.file) ≡ Ok known
  pub means : u.typed ≡ meaning (expanded u.file)

meant_ok : (core : File) (t : Typed) → typed_file core ≡ Ok t → (is_built_file core ≡ true) × ((known : Known) × ((checked core ≡ Ok known) × (t ≡ meaning core)))
meant_ok core t e = by (is_built_file core) refl where
  by : (b : Bool) → is_built_file core ≡ b → (is_built_file core ≡ true) × ((known : Known) × ((checked core ≡ Ok known) × (t ≡ meaning core)))
  by true h =
      let p = step_ok (with_fault f.Type (checked core)) (λ known. Ok (meaning core)) t (sym (ap (λ (b : Bool). if b then with_fault f.Type (checked core) >>= (λ known. Ok (meaning core)) else Err why.Unbuilt) h) ∙ e) in
      (h, (p.0, (fault_ok f.Type (checked core) p.0 p.1.0, cc)))
  by false h = absurd (let q : Err why.Unbuilt ≡ Ok t = sym (ap (λ (b : Bool). if b then with_fault f.Type (checked core) >>= (λ known. Ok (meaning core)) else Err why.Unbuilt) h) ∙ e in cc)

pub steps : (mode : Mode) (bytes : List ℕ) (u : Understood) → understood mode bytes ≡ Ok u → Steps mode bytes u
steps mode bytes u e =
    let p = step_ok (file_in mode bytes) (λ file. typed_file (expanded file) >>= λ typed. Ok (record { file = file; typed = typed })) u e in
    let q = step_ok (typed_file (expanded p.0)) (λ typed. Ok (record { file = p.0; typed = typed })) u p.1.1 in
    let made : ◌≡◌ {A = Understood} (record { file = p.0; typed = q.0 }) u = cc in
    let file : p.0 ≡ u.file = ap (λ (v : Understood). v.file) made in
    let typed : q.0 ≡ u.typed = ap (λ (v : Understood). v.typed) made in
    let r = file_read mode bytes p.0 p.1.0 in
    let m = meant_ok (expanded p.0) q.0 q.1.0 in
    subst (λ (v : Understood). Steps mode bytes v) made (record {
      ts = r.0;
      known = m.1.0;
      lexed = r.1.0;
      read = r.1.1;
      core = core_of mode bytes p.0 (expanded p.0) p.1.0 refl m.0;
      built = m.0;
      faultless = m.1.1.0;
      means = m.1.1.1;
    })

-- the first script has no more sends than the first sender
few_sends : (g : RawSend → Fact) (ss : List Sender) → AllByRecursion (λ s. length s.sends ≤ 4096) ss → length (first_script (map (λ s. map g s.sends) ss)) ≤ 4096
few_sends g [] h = omega arith
few_sends g (s ∷ ss) h = let e : length (map g s.sends) ≡ length s.sends = length-map s.sends g in let l : length s.sends ≤ 4096 = h.0 in omega arith

-- What was understood of an input within the size can be run.
pub runnable : (mode : Mode) (bytes : List ℕ) (u : Understood) → length bytes ≤ 2 ^ 20 → understood mode bytes ≡ Ok u → IsRunnable mode u
runnable mode bytes u small e =
    let s = steps mode bytes u e in
    let core = expanded u.file in
    record {
      typed = subst (λ (t : Typed). IsTypedProg t.prog) (sym s.means) (faultless core s.known s.core s.faultless);
      built = subst (λ (t : Typed). is_built t.prog ≡ true) (sym s.means) (lines_built (each ties_of nothing core.graph.decls) nothing core.graph.decls s.built);
      one_script = λ replay.
          let one : length u.file.senders ≤ 1 = one_sender_lem (length bytes) (reading mode) s.ts u.file (ap (λ (m : Mode). (reading m).one_sender) replay) s.read in
          let scripts : length u.typed.scripts ≡ length u.file.senders = ap (λ (t : Typed). length t.scripts) s.means ∙ length-map core.senders _ in
          omega arith;
      room =
          let listens : length u.typed.listens ≡ length u.file.listens = ap (λ (t : Typed). length t.listens) s.means ∙ length-map core.listens _ in
          let four : 4 * length u.file.listens ≤ length s.ts = listens_are_few_lem (length bytes) (reading mode) s.ts u.file s.read in
          let few : length s.ts ≤ length bytes = tokens_are_few_lem bytes s.ts s.lexed in
          let sends : length (first_script u.typed.scripts) ≤ 4096 =
          subst (λ (t : Typed). length (first_script t.scripts) ≤ 4096) (sym s.means) (few_sends (sent_over (known_after nothing core.graph.decls) (references_from 0 (known_after nothing core.graph.decls).names)) core.senders
          (sends_are_few_lem (length bytes) (reading mode) s.ts u.file s.read)) in
          omega arith;
    }
