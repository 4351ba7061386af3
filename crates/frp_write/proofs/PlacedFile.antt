-- Tokens of the kinds of a file are that file, places apart.
use Rattle.std.proofs.Common.{◌≡◌, ℕ, ◌≤◌, true, List, [], ◌∷◌, ◌++◌, length, map, refl, sym, ap, ◌∙◌, append_assoc, arith}
use Rattle.std.specs.Prelude.{◌&&◌, nat_le, codes}
use Rattle.std.specs.List.{list_all}
use Rattle.std.proofs.lemmas.Grind.{common_steps}
use Rattle.frp_expr.specs.declared.raw.Raw.{Raw}
use Rattle.frp_lex.specs.declared.token.Kind.TheVariants as k
use Rattle.frp_lex.specs.declared.token.Token.{Token}
use Rattle.frp_lex.specs.Spelling.{kinds}
use Rattle.frp_file.specs.declared.file.Decl.{Decl}
use Rattle.frp_file.specs.declared.file.Graph.{Graph}
use Rattle.frp_file.specs.declared.file.Listen.{Listen}
use Rattle.frp_file.specs.declared.file.RawSend.{RawSend}
use Rattle.frp_file.specs.declared.file.Sender.{Sender}
use Rattle.frp_file.specs.declared.file.File.{File}
use Rattle.frp_form.specs.Grammar.{left_at, name_at, name_of, IsDecl, IsGraph, graph_is, IsListen, listen_is, IsSend, send_is, IsSender, sender_is, IsFile, file_is}
use Rattle.frp_base.proofs.Booleans.{both_true}
use Rattle.frp_write.specs.Writing.{Kinds, run_together, spot_kind, expr_kinds, decl_kinds, graph_kinds, listen_kinds, send_kinds, sender_kinds, forms_of}
use Rattle.frp_write.specs.Lawful.{is_user_spot, is_lawful_expr, is_lawful_decl, is_lawful_listen, is_lawful_send, is_lawful_sender, is_lawful_file}
use Rattle.frp_write.specs.Places.{unplaced_spot, unplaced_decl, unplaced_graph, unplaced_listen, unplaced_send, unplaced_sender, unplaced}
use Rattle.frp_write.specs.RoundTrip.{in_check}
use Rattle.frp_write.proofs.Splitting.{ending, part, opening, closing}
use Rattle.frp_write.proofs.Placed.{Placed, user, all_placed, as_long}
use Rattle.frp_write.proofs.PlacedShapes.{spot_at, spot, last_one}
use Rattle.frp_write.proofs.PlacedDecls.{decl_placed}

graph_placed : (x : Graph) → list_all is_lawful_decl x.decls ≡ true → (ts : List Token) → kinds ts ≡ graph_kinds x → Placed IsGraph unplaced_graph x ts
graph_placed x h ts e =
    let P = Placed IsGraph unplaced_graph x in
    opening P (codes "graph") (run_together (map decl_kinds x.decls)) (λ a b us d.
    closing (λ vs. P (left_at a ∷ name_at b (codes "graph") ∷ vs)) (run_together (map decl_kinds x.decls)) (λ vs c g.
    let p = all_placed IsDecl unplaced_decl decl_kinds is_lawful_decl decl_placed x.decls h vs g in
    record {
      y = record { at = a; decls = p.y };
      is = graph_is a b c p.y vs p.is;
      same = ap (λ (w : List Decl). record { at = 0; decls = w }) p.same;
    }) us d) ts e

listen_placed : (x : Listen) → is_lawful_listen x ≡ true → (ts : List Token) → kinds ts ≡ listen_kinds x → Placed IsListen unplaced_listen x ts
listen_placed x h ts e =
    let P = Placed IsListen unplaced_listen x in
    opening P (codes "listen") (spot_kind x.name ∷ []) (λ a b us d.
    spot (λ vs. P (left_at a ∷ name_at b (codes "listen") ∷ vs)) x.name (k.Right ∷ []) (λ n us d.
    ending (λ vs. P (left_at a ∷ name_at b (codes "listen") ∷ name_of (spot_at n x.name) ∷ vs)) k.Right (λ c.
    record {
      y = record { at = a; name = spot_at n x.name };
      is = listen_is a b c (spot_at n x.name) (user x.name h n);
      same = refl;
    }) us d) us d) ts e

send_placed : (x : RawSend) → is_lawful_send x ≡ true → (ts : List Token) → kinds ts ≡ send_kinds x → Placed IsSend unplaced_send x ts
send_placed x h ts e =
    let P = Placed IsSend unplaced_send x in
    let hs = both_true (is_user_spot x.name) (is_lawful_expr x.value) h in
    opening P (codes "send") (spot_kind x.name ∷ expr_kinds x.value) (λ a b us d.
    spot (λ vs. P (left_at a ∷ name_at b (codes "send") ∷ vs)) x.name (expr_kinds x.value ++ k.Right ∷ []) (λ n us d.
    last_one (λ vs. P (left_at a ∷ name_at b (codes "send") ∷ name_of (spot_at n x.name) ∷ vs)) x.value hs.1 (λ xs c p.
    record {
      y = record { at = a; name = spot_at n x.name; value = p.y };
      is = send_is a b c (spot_at n x.name) p.y xs (user x.name hs.0 n) p.is;
      same = ap (λ (w : Raw). record { at = 0; name = unplaced_spot x.name; value = w }) p.same;
    }) us d) us d) ts e

within : (n m most : ℕ) → nat_le n most ≡ true → m ≡ n → m ≤ most
within n m most h e = grind (arith, common_steps)

sender_placed : (x : Sender) → is_lawful_sender x ≡ true → (ts : List Token) → kinds ts ≡ sender_kinds x → Placed IsSender unplaced_sender x ts
sender_placed x h ts e =
    let P = Placed IsSender unplaced_sender x in
    let hs = both_true (list_all is_lawful_send x.sends) (nat_le (length x.sends) 4096) h in
    opening P (codes "sender") (run_together (map send_kinds x.sends)) (λ a b us d.
    closing (λ vs. P (left_at a ∷ name_at b (codes "sender") ∷ vs)) (run_together (map send_kinds x.sends)) (λ vs c g.
    let p = all_placed IsSend unplaced_send send_kinds is_lawful_send send_placed x.sends hs.0 vs g in
    record {
      y = record { at = a; sends = p.y };
      is = sender_is a b c p.y vs (within (length x.sends) (length p.y) 4096 hs.1 (as_long unplaced_send x.sends p.y p.same)) p.is;
      same = ap (λ (w : List RawSend). record { at = 0; sends = w }) p.same;
    }) us d) ts e

joined_append : (xs ys : List Kinds) → run_together (xs ++ ys) ≡ run_together xs ++ run_together ys
joined_append [] ys = refl
joined_append (x ∷ xs) ys = ap (λ (l : Kinds). x ++ l) (joined_append xs ys) ∙ sym (append_assoc x (run_together xs) (run_together ys))

-- tokens of the kinds of a lawful file are that file, places apart
pub file_placed : (f : File) → is_lawful_file f ≡ true → (ts : List Token) → kinds ts ≡ run_together (forms_of f) → Placed (IsFile in_check) unplaced f ts
file_placed f h ts e =
    let P = Placed (IsFile in_check) unplaced f in
    let h3 = both_true (list_all is_lawful_decl f.graph.decls && list_all is_lawful_listen f.listens && list_all is_lawful_sender f.senders) (nat_le (length f.senders) 16) h in
    let h2 = both_true (list_all is_lawful_decl f.graph.decls && list_all is_lawful_listen f.listens) (list_all is_lawful_sender f.senders) h3.0 in
    let h1 = both_true (list_all is_lawful_decl f.graph.decls) (list_all is_lawful_listen f.listens) h2.0 in
    let lk : List Kinds = map listen_kinds f.listens in
    let sk : List Kinds = map sender_kinds f.senders in
    let gk : Kinds = graph_kinds f.graph in
    part P (gk ++ run_together lk) (run_together sk) (λ vs ss d s.
    part (λ vs. P (vs ++ ss)) gk (run_together lk) (λ gs ls g l.
    let p = graph_placed f.graph h1.0 gs g in
    let q = all_placed IsListen unplaced_listen listen_kinds is_lawful_listen listen_placed f.listens h1.1 ls l in
    let r = all_placed IsSender unplaced_sender sender_kinds is_lawful_sender sender_placed f.senders h2.1 ss s in
    record {
      y = record { graph = p.y; listens = q.y; senders = r.y };
      is = file_is p.y q.y r.y gs ls ss p.is q.is r.is (within (length f.senders) (length r.y) 16 h3.1 (as_long unplaced_sender f.senders r.y r.same));
      same = (λ t. record { graph = p.same t; listens = q.same t; senders = r.same t });
    }) vs d) ts (e ∙ ap (λ (l : Kinds). gk ++ l) (joined_append lk sk) ∙ sym (append_assoc gk (run_together lk) (run_together sk)))
