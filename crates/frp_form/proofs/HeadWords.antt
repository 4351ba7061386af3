-- The words that heads are written as, and what they mean.
use Rattle.std.proofs.Common.{◌≡◌, ℕ, Bool, true, false, List, Option, Some, None, refl, ap, ◌∙◌}
use Rattle.std.specs.Prelude.{codes, if◌then◌else◌}
use Rattle.std.specs.Str.{bytes_eq}
use Rattle.std.proofs.lemmas.Slice.Eq.{bytes_eq-Decides}
use Rattle.frp_form.specs.declared.ty_word.TyWord.{TyWord}
use Rattle.frp_form.specs.declared.ty_word.TyWord.TheVariants as theTyWord
use Rattle.frp_form.specs.declared.ty_word.AtomTy.TheVariants as theAtomTy
use Rattle.frp_form.specs.declared.ty_word.UnaryTy.TheVariants as theUnaryTy
use Rattle.frp_form.specs.declared.ty_word.BinaryTy.TheVariants as theBinaryTy
use Rattle.frp_form.specs.declared.heads.Head.{Head}
use Rattle.frp_form.specs.declared.heads.Head.TheVariants as theHead
use Rattle.frp_form.specs.declared.heads.Unary.TheVariants as theUnary
use Rattle.frp_form.specs.declared.heads.Binary.TheVariants as theBinary
use Rattle.frp_form.specs.declared.heads.Ternary.TheVariants as theTernary
use Rattle.frp_form.specs.declared.shape_heads.ShapeHead.{ShapeHead}
use Rattle.frp_form.specs.declared.shape_heads.ShapeHead.TheVariants as theShapeHead
use Rattle.frp_form.specs.declared.shape_heads.TyShape.TheVariants as theTyShape
use Rattle.frp_form.specs.declared.shape_heads.UnaryShape.TheVariants as theUnaryShape
use Rattle.frp_form.specs.declared.shape_heads.BinaryShape.TheVariants as theBinaryShape
use Rattle.frp_form.specs.declared.shape_heads.MapShape.TheVariants as theMapShape
use Rattle.frp_form.specs.declared.shape_heads.JoinShape.TheVariants as theJoinShape
use Rattle.frp_form.specs.declared.shape_heads.FoldShape.TheVariants as theFoldShape
use Rattle.frp_form.specs.declared.item_heads.ItemHead.{ItemHead}
use Rattle.frp_form.specs.declared.item_heads.ItemHead.TheVariants as theItemHead
use Rattle.frp_form.specs.declared.item_heads.DeclHead.{DeclHead}
use Rattle.frp_form.specs.declared.item_heads.DeclHead.TheVariants as theDeclHead
use Rattle.frp_form.specs.Types.{ty_word}
use Rattle.frp_form.specs.Heads.{head_of}
use Rattle.frp_form.specs.ShapeHeads.{shape_head}
use Rattle.frp_form.specs.Items.{body_head}
use Rattle.frp_form.specs.Decls.{decl_head}
use Rattle.frp_form.specs.Words.{atom_word, unary_ty_word, binary_ty_word, unary_word, binary_word, ternary_word, typed_word, unary_shape_word, binary_shape_word, map_word, join_word, fold_word}

some_or : {H : Type 0} → H → Option H → H
some_or d (Some x) = x
some_or d None = d

some_of : {H : Type 0} (x y : H) → Some x ≡ Some y → x ≡ y
unfolding some_or
some_of x y h = ap (some_or x) h

step_by : {H : Type 0} (word_of : H → List ℕ) (w c : List ℕ) (a : H) (rest : Option H) (op : H) (q : Bool) → bytes_eq w c ≡ q → c ≡ word_of a → (rest ≡ Some op → w ≡ word_of op) → (if q then Some a else rest) ≡ Some op → w ≡ word_of op
step_by word_of w c a rest op true e is go h = (bytes_eq-Decides w c).0 e ∙ is ∙ ap word_of (some_of a op h)
step_by word_of w c a rest op false e is go h = go h

-- a word is what its meaning is written as, where the next word of the table is so and the words behind it are
step : {H : Type 0} (word_of : H → List ℕ) (w c : List ℕ) (a : H) (rest : Option H) (op : H) → c ≡ word_of a → (rest ≡ Some op → w ≡ word_of op) → (if bytes_eq w c then Some a else rest) ≡ Some op → w ≡ word_of op
step word_of w c a rest op is go h = step_by word_of w c a rest op (bytes_eq w c) refl is go h

-- ---- ty_word

abbrev pub word_of_ty : TyWord → List ℕ
word_of_ty (theTyWord.Atom op) = atom_word op
word_of_ty (theTyWord.Unary op) = unary_ty_word op
word_of_ty (theTyWord.Binary op) = binary_ty_word op

-- a word that means this is written so
pub ty_named : (w : List ℕ) (op : TyWord) → ty_word w ≡ Some op → w ≡ word_of_ty op
ty_named w op = step word_of_ty w (codes "Int") (theTyWord.Atom theAtomTy.Int) _ op refl (
    step word_of_ty w (codes "Bool") (theTyWord.Atom theAtomTy.Bool) _ op refl (
    step word_of_ty w (codes "Text") (theTyWord.Atom theAtomTy.Text) _ op refl (
    step word_of_ty w (codes "List") (theTyWord.Unary theUnaryTy.List) _ op refl (
    step word_of_ty w (codes "Stream") (theTyWord.Unary theUnaryTy.Stream) _ op refl (
    step word_of_ty w (codes "Cell") (theTyWord.Unary theUnaryTy.Cell) _ op refl (
    step word_of_ty w (codes "Pair") (theTyWord.Binary theBinaryTy.Pair) _ op refl (
    step word_of_ty w (codes "Fun") (theTyWord.Binary theBinaryTy.Fun) _ op refl (
    λ e. absurd cc))))))))

-- and what is written so means this
pub ty_known : (op : TyWord) → ty_word (word_of_ty op) ≡ Some op
ty_known (theTyWord.Atom theAtomTy.Int) = refl
ty_known (theTyWord.Atom theAtomTy.Bool) = refl
ty_known (theTyWord.Atom theAtomTy.Text) = refl
ty_known (theTyWord.Unary theUnaryTy.List) = refl
ty_known (theTyWord.Unary theUnaryTy.Stream) = refl
ty_known (theTyWord.Unary theUnaryTy.Cell) = refl
ty_known (theTyWord.Binary theBinaryTy.Pair) = refl
ty_known (theTyWord.Binary theBinaryTy.Fun) = refl

-- ---- head_of

abbrev pub word_of_expr : Head → List ℕ
word_of_expr (theHead.Unary op) = unary_word op
word_of_expr (theHead.Binary op) = binary_word op
word_of_expr (theHead.Ternary op) = ternary_word op
word_of_expr theHead.Let = codes "let"
word_of_expr theHead.List = codes "list"
word_of_expr theHead.Nil = codes "nil"
word_of_expr theHead.Close = codes "close"

-- a word that means this is written so
pub expr_named : (w : List ℕ) (op : Head) → head_of w ≡ Some op → w ≡ word_of_expr op
expr_named w op = step word_of_expr w (codes "neg") (theHead.Unary theUnary.Neg) _ op refl (
    step word_of_expr w (codes "not") (theHead.Unary theUnary.Not) _ op refl (
    step word_of_expr w (codes "first") (theHead.Unary theUnary.First) _ op refl (
    step word_of_expr w (codes "second") (theHead.Unary theUnary.Second) _ op refl (
    step word_of_expr w (codes "len") (theHead.Unary theUnary.Len) _ op refl (
    step word_of_expr w (codes "show") (theHead.Unary theUnary.Show) _ op refl (
    step word_of_expr w (codes "add") (theHead.Binary theBinary.Add) _ op refl (
    step word_of_expr w (codes "sub") (theHead.Binary theBinary.Sub) _ op refl (
    step word_of_expr w (codes "mul") (theHead.Binary theBinary.Mul) _ op refl (
    step word_of_expr w (codes "div") (theHead.Binary theBinary.Div) _ op refl (
    step word_of_expr w (codes "rem") (theHead.Binary theBinary.Rem) _ op refl (
    step word_of_expr w (codes "lt") (theHead.Binary theBinary.Lt) _ op refl (
    step word_of_expr w (codes "eq") (theHead.Binary theBinary.Eq) _ op refl (
    step word_of_expr w (codes "and") (theHead.Binary theBinary.And) _ op refl (
    step word_of_expr w (codes "or") (theHead.Binary theBinary.Or) _ op refl (
    step word_of_expr w (codes "pair") (theHead.Binary theBinary.Pair) _ op refl (
    step word_of_expr w (codes "append") (theHead.Binary theBinary.Append) _ op refl (
    step word_of_expr w (codes "cat") (theHead.Binary theBinary.Cat) _ op refl (
    step word_of_expr w (codes "if") (theHead.Ternary theTernary.If) _ op refl (
    step word_of_expr w (codes "at") (theHead.Ternary theTernary.At) _ op refl (
    step word_of_expr w (codes "let") theHead.Let _ op refl (
    step word_of_expr w (codes "list") theHead.List _ op refl (
    step word_of_expr w (codes "nil") theHead.Nil _ op refl (
    step word_of_expr w (codes "close") theHead.Close _ op refl (
    λ e. absurd cc))))))))))))))))))))))))

-- and what is written so means this
pub expr_known : (op : Head) → head_of (word_of_expr op) ≡ Some op
expr_known (theHead.Unary theUnary.Neg) = refl
expr_known (theHead.Unary theUnary.Not) = refl
expr_known (theHead.Unary theUnary.First) = refl
expr_known (theHead.Unary theUnary.Second) = refl
expr_known (theHead.Unary theUnary.Len) = refl
expr_known (theHead.Unary theUnary.Show) = refl
expr_known (theHead.Binary theBinary.Add) = refl
expr_known (theHead.Binary theBinary.Sub) = refl
expr_known (theHead.Binary theBinary.Mul) = refl
expr_known (theHead.Binary theBinary.Div) = refl
expr_known (theHead.Binary theBinary.Rem) = refl
expr_known (theHead.Binary theBinary.Lt) = refl
expr_known (theHead.Binary theBinary.Eq) = refl
expr_known (theHead.Binary theBinary.And) = refl
expr_known (theHead.Binary theBinary.Or) = refl
expr_known (theHead.Binary theBinary.Pair) = refl
expr_known (theHead.Binary theBinary.Append) = refl
expr_known (theHead.Binary theBinary.Cat) = refl
expr_known (theHead.Ternary theTernary.If) = refl
expr_known (theHead.Ternary theTernary.At) = refl
expr_known theHead.Let = refl
expr_known theHead.List = refl
expr_known theHead.Nil = refl
expr_known theHead.Close = refl

-- ---- shape_head

abbrev pub word_of_shape : ShapeHead → List ℕ
word_of_shape (theShapeHead.Typed op) = typed_word op
word_of_shape (theShapeHead.Unary op) = unary_shape_word op
word_of_shape (theShapeHead.Binary op) = binary_shape_word op
word_of_shape (theShapeHead.Mapping op) = map_word op
word_of_shape (theShapeHead.Joining op) = join_word op
word_of_shape (theShapeHead.Folding op) = fold_word op
word_of_shape theShapeHead.Lift2 = codes "lift2"
word_of_shape theShapeHead.Execute = codes "execute"

-- a word that means this is written so
pub shape_named : (w : List ℕ) (op : ShapeHead) → shape_head w ≡ Some op → w ≡ word_of_shape op
shape_named w op = step word_of_shape w (codes "never") (theShapeHead.Typed theTyShape.Never) _ op refl (
    step word_of_shape w (codes "loops") (theShapeHead.Typed theTyShape.Loops) _ op refl (
    step word_of_shape w (codes "loopc") (theShapeHead.Typed theTyShape.Loopc) _ op refl (
    step word_of_shape w (codes "constant") (theShapeHead.Unary theUnaryShape.Constant) _ op refl (
    step word_of_shape w (codes "split") (theShapeHead.Unary theUnaryShape.Split) _ op refl (
    step word_of_shape w (codes "updates") (theShapeHead.Unary theUnaryShape.Updates) _ op refl (
    step word_of_shape w (codes "value") (theShapeHead.Unary theUnaryShape.Value) _ op refl (
    step word_of_shape w (codes "switchs") (theShapeHead.Unary theUnaryShape.Switchs) _ op refl (
    step word_of_shape w (codes "switchc") (theShapeHead.Unary theUnaryShape.Switchc) _ op refl (
    step word_of_shape w (codes "once") (theShapeHead.Unary theUnaryShape.Once) _ op refl (
    step word_of_shape w (codes "defer") (theShapeHead.Unary theUnaryShape.Defer) _ op refl (
    step word_of_shape w (codes "hold") (theShapeHead.Binary theBinaryShape.Hold) _ op refl (
    step word_of_shape w (codes "apply") (theShapeHead.Binary theBinaryShape.Apply) _ op refl (
    step word_of_shape w (codes "orelse") (theShapeHead.Binary theBinaryShape.Orelse) _ op refl (
    step word_of_shape w (codes "gate") (theShapeHead.Binary theBinaryShape.Gate) _ op refl (
    step word_of_shape w (codes "map") (theShapeHead.Mapping theMapShape.Map) _ op refl (
    step word_of_shape w (codes "mapc") (theShapeHead.Mapping theMapShape.Mapc) _ op refl (
    step word_of_shape w (codes "filter") (theShapeHead.Mapping theMapShape.Filter) _ op refl (
    step word_of_shape w (codes "merge") (theShapeHead.Joining theJoinShape.Merge) _ op refl (
    step word_of_shape w (codes "snapshot") (theShapeHead.Joining theJoinShape.Snapshot) _ op refl (
    step word_of_shape w (codes "accum") (theShapeHead.Folding theFoldShape.Accum) _ op refl (
    step word_of_shape w (codes "collect") (theShapeHead.Folding theFoldShape.Collect) _ op refl (
    step word_of_shape w (codes "lift2") theShapeHead.Lift2 _ op refl (
    step word_of_shape w (codes "execute") theShapeHead.Execute _ op refl (
    λ e. absurd cc))))))))))))))))))))))))

-- and what is written so means this
pub shape_known : (op : ShapeHead) → shape_head (word_of_shape op) ≡ Some op
shape_known (theShapeHead.Typed theTyShape.Never) = refl
shape_known (theShapeHead.Typed theTyShape.Loops) = refl
shape_known (theShapeHead.Typed theTyShape.Loopc) = refl
shape_known (theShapeHead.Unary theUnaryShape.Constant) = refl
shape_known (theShapeHead.Unary theUnaryShape.Split) = refl
shape_known (theShapeHead.Unary theUnaryShape.Updates) = refl
shape_known (theShapeHead.Unary theUnaryShape.Value) = refl
shape_known (theShapeHead.Unary theUnaryShape.Switchs) = refl
shape_known (theShapeHead.Unary theUnaryShape.Switchc) = refl
shape_known (theShapeHead.Unary theUnaryShape.Once) = refl
shape_known (theShapeHead.Unary theUnaryShape.Defer) = refl
shape_known (theShapeHead.Binary theBinaryShape.Hold) = refl
shape_known (theShapeHead.Binary theBinaryShape.Apply) = refl
shape_known (theShapeHead.Binary theBinaryShape.Orelse) = refl
shape_known (theShapeHead.Binary theBinaryShape.Gate) = refl
shape_known (theShapeHead.Mapping theMapShape.Map) = refl
shape_known (theShapeHead.Mapping theMapShape.Mapc) = refl
shape_known (theShapeHead.Mapping theMapShape.Filter) = refl
shape_known (theShapeHead.Joining theJoinShape.Merge) = refl
shape_known (theShapeHead.Joining theJoinShape.Snapshot) = refl
shape_known (theShapeHead.Folding theFoldShape.Accum) = refl
shape_known (theShapeHead.Folding theFoldShape.Collect) = refl
shape_known theShapeHead.Lift2 = refl
shape_known theShapeHead.Execute = refl

-- ---- body_head

abbrev pub word_of_body : ItemHead → List ℕ
word_of_body theItemHead.Sink = codes "sink"
word_of_body theItemHead.Cellsink = codes "cellsink"
word_of_body theItemHead.Let = codes "let"
word_of_body theItemHead.Tie = codes "tie"
word_of_body theItemHead.Get = codes "get"

-- a word that means this is written so
pub body_named : (w : List ℕ) (op : ItemHead) → body_head w ≡ Some op → w ≡ word_of_body op
body_named w op = step word_of_body w (codes "let") theItemHead.Let _ op refl (
    step word_of_body w (codes "tie") theItemHead.Tie _ op refl (
    step word_of_body w (codes "get") theItemHead.Get _ op refl (
    λ e. absurd cc)))

-- ---- decl_head

abbrev pub word_of_decl : DeclHead → List ℕ
word_of_decl theDeclHead.Template = codes "template"
word_of_decl theDeclHead.Function = codes "fun"
word_of_decl (theDeclHead.Item op) = word_of_body op

-- a word that means this is written so
pub decl_named : (w : List ℕ) (op : DeclHead) → decl_head w ≡ Some op → w ≡ word_of_decl op
decl_named w op = step word_of_decl w (codes "template") theDeclHead.Template _ op refl (
    step word_of_decl w (codes "fun") theDeclHead.Function _ op refl (
    step word_of_decl w (codes "sink") (theDeclHead.Item theItemHead.Sink) _ op refl (
    step word_of_decl w (codes "cellsink") (theDeclHead.Item theItemHead.Cellsink) _ op refl (
    step word_of_decl w (codes "let") (theDeclHead.Item theItemHead.Let) _ op refl (
    step word_of_decl w (codes "tie") (theDeclHead.Item theItemHead.Tie) _ op refl (
    λ e. absurd cc))))))
