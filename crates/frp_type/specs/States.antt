-- What is known in a state of the checker, and what a declaration adds to it.
use Rattle.std.specs.Prelude.{◌≡◌, ℕ, List, [], ◌∷◌, ◌++◌, length, map, None, Ok}
use Rattle.frp_base.specs.declared.text.Text.{Text}
use Rattle.frp_base.specs.declared.ty.Ty.{Ty}
use Rattle.frp_expr.specs.declared.expr.Expr.{Expr}
use Rattle.frp_expr.specs.declared.scope.Scope.{Scope}
use Rattle.frp_expr.specs.declared.scope.Typing.{Typing}
use Rattle.frp_file.specs.declared.file.Decl.{Decl}
use Rattle.frp_file.specs.declared.file.File.{File}
use Rattle.frp_graph.specs.declared.prog.Line3.{Line3}
use Rattle.frp_graph.specs.declared.prog.Line3.TheVariants.{Node, Get}
use Rattle.frp_graph.specs.declared.prog.LineShape.{LineShape}
use Rattle.frp_graph.specs.declared.prog.LineShape.TheVariants as l
use Rattle.frp_graph.specs.declared.prog.Prog.{Prog}
use Rattle.frp_graph.specs.TypedProg.{IsTypedProg}
use Rattle.frp_type.specs.Faults.{checked}
use Rattle.frp_type.specs.Known.{Known, nothing, all_declared}
use Rattle.frp_type.specs.Meaning.{lines_of, codes_of, ties_of, funs_of, each, tied_to, meaning}
use Rattle.frp_type.specs.declared.shapes.Line.{Line}
use Rattle.frp_type.specs.declared.state.State.{State}
use Rattle.frp_type.specs.declared.typed.Typed.{Typed}

-- with no loop
abbrev pub here : Scope → List Expr → Known
here scope codes = record { funs = scope.funs; names = scope.names; codes = length codes; loops = [] }

abbrev pub known_of : State → Known
known_of s = record { funs = s.scope.funs; names = s.scope.names; codes = length s.codes; loops = s.loops }

-- the state with a node more: its name with its type, and its line
abbrev pub with_typed_line : State → Text → Ty → Line → State
with_typed_line s n x line = record {
  scope = record { names = s.scope.names ++ (n, x) ∷ []; funs = s.scope.funs };
  loops = s.loops;
  lines = s.lines ++ Node line.ty line.shape ∷ [];
  codes = s.codes;
  funs = s.funs;
  ties = s.ties;
}

-- the state with a function more
abbrev pub with_fun : State → Text → List Ty → List Ty → Ty → Typing → State
with_fun s n kept again arg typing = record {
  scope = record { names = s.scope.names; funs = s.scope.funs ++ (n, kept, arg, typing.ty) ∷ [] };
  loops = s.loops;
  lines = s.lines;
  codes = s.codes;
  funs = s.funs ++ record { kept = again; arg = arg; result = typing.ty; e = typing.expr } ∷ [];
  ties = s.ties;
}

-- what the declaration stands for was added
pub record Adds (old new : State) (d : Decl) : Type 0 where
  pub lines : new.lines ≡ old.lines ++ lines_of [] (known_of old) d
  pub codes : new.codes ≡ old.codes ++ codes_of (known_of old) d
  pub ties : new.ties ≡ old.ties ++ ties_of (known_of old) d
  pub funs : new.funs ≡ old.funs ++ funs_of (known_of old) d

-- the state has what these declarations stand for, the first over nothing
pub record StandsFor (s : State) (ds : List Decl) : Type 0 where
  pub lines : s.lines ≡ each (lines_of []) nothing ds
  pub codes : s.codes ≡ each codes_of nothing ds
  pub ties : s.ties ≡ each ties_of nothing ds
  pub funs : s.funs ≡ each funs_of nothing ds

-- what is left to be declared gives, with what the state has, what all declarations give
pub record Left (s : State) (rest ds : List Decl) : Type 0 where
  pub known : all_declared (known_of s) rest ≡ all_declared nothing ds
  pub lines : s.lines ++ each (lines_of []) (known_of s) rest ≡ each (lines_of []) nothing ds
  pub codes : s.codes ++ each codes_of (known_of s) rest ≡ each codes_of nothing ds
  pub ties : s.ties ++ each ties_of (known_of s) rest ≡ each ties_of nothing ds
  pub funs : s.funs ++ each funs_of (known_of s) rest ≡ each funs_of nothing ds

-- a line, where a loop is tied to itself, with what these ties say
abbrev pub tie_shape : List (ℕ × ℕ) → LineShape → LineShape
tie_shape ties (l.Loop to) = l.Loop (tied_to ties to)
tie_shape ties shape = shape

abbrev pub tie_line : List (ℕ × ℕ) → Line3 → Line3
tie_line ties (Node x shape) = Node x (tie_shape ties shape)
tie_line ties (Get c) = Get c

-- the program of a state in which all loops are tied
abbrev pub prog_in : State → Prog
prog_in s = record { codes = s.codes; funs = s.funs; templates = []; body = record { param = None; kept = []; lines = map (tie_line s.ties) s.lines; give = None }; joins = [] }

-- The file has no fault and this is what it means; its program is typed.
pub record IsTypedFile (f : File) (t : Typed) : Type 0 where
  pub known : Known
  pub faultless : checked f ≡ Ok known
  pub means : t ≡ meaning f
  pub typed : IsTypedProg t.prog
