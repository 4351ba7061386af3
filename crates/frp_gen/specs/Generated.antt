-- The graph file that is drawn for a starting number and a count of items: what is drawn, and its canonical text.
use Rattle.std.specs.Prelude.{ℕ, ◌+◌, ◌*◌, ◌/◌, ◌%◌, ◌==◌, List, [], ◌∷◌, ◌++◌, if◌then◌else◌, fold, min, codes}
use Rattle.std.specs.List.{range_with_len, scan}
use Rattle.std.specs.Fmt.{decimal}
use Rattle.frp_gen.specs.declared.item.Item.{Item}
use Rattle.frp_gen.specs.declared.item.Item.TheVariants.{Map, Filter, Merge, Snapshot, Defer}

-- the state after a state
abbrev pub next_state : ℕ → ℕ
next_state x = (x * 1103515245 + 12345) % 2147483648

-- a draw below k: the state after it, and the number
abbrev pub draw : ℕ → ℕ → ℕ × ℕ
draw k x = (next_state x, next_state x / 65536 % k)

-- the item of number i of a kind, over stream j, with what the kind draws further: the state after it, and the item
abbrev pub item_of_kind : ℕ → ℕ → ℕ → ℕ → ℕ × Item
item_of_kind kind i j x =
    if kind == 0 then ((draw 100 x).0, Map j (draw 100 x).1)
    else (if kind == 1 then ((draw 1000 x).0, Filter j (draw 1000 x).1)
    else (if kind == 2 then ((draw i x).0, Merge j (draw i x).1)
    else (if kind == 3 then (x, Snapshot j)
    else (x, Defer j))))

-- the item of number i: a draw gives its kind, and a draw a stream before it
unfoldable pub drawn_item : ℕ → ℕ → ℕ × Item
drawn_item i x =
    let kind = draw 5 x in
    let j = draw i kind.0 in
    item_of_kind kind.1 i j.1 j.0

-- the items 1 to n, and the state after them
unfoldable pub items : ℕ → ℕ → List Item
items n x = scan (λ y i. (drawn_item i y).0) (λ y i. (drawn_item i y).1) x (range_with_len 1 n)

unfoldable pub after_items : ℕ → ℕ → ℕ
after_items n x = fold (λ y i. (drawn_item i y).0) x (range_with_len 1 n)

-- n numbers to send
unfoldable pub sends : ℕ → ℕ → List ℕ
sends n x = scan (λ y i. (draw 1000 y).0) (λ y i. (draw 1000 y).1) x (range_with_len 0 n)

-- the shape of an item
abbrev pub shape_text : Item → List ℕ
shape_text (Map j d) = codes "(map x n" ++ decimal j ++ codes " (add x " ++ decimal d ++ codes "))"
shape_text (Filter j d) = codes "(filter x n" ++ decimal j ++ codes " (lt x " ++ decimal d ++ codes "))"
shape_text (Merge j k) = codes "(merge x y n" ++ decimal j ++ codes " n" ++ decimal k ++ codes " (sub x y))"
shape_text (Snapshot j) = codes "(snapshot x y n" ++ decimal j ++ codes " c (add x y))"
shape_text (Defer j) = codes "(defer n" ++ decimal j ++ codes ")"

-- the item of number i, with a space before it, and items of which the first has number i
abbrev pub item_text : ℕ → Item → List ℕ
item_text i item = codes " (let n" ++ decimal i ++ codes " " ++ shape_text item ++ codes ")"

abbrev pub item_texts : ℕ → List Item → List ℕ
item_texts i [] = []
item_texts i (item ∷ rest) = item_text i item ++ item_texts (i + 1) rest

-- a send, with a space before it, and sends
abbrev pub send_text : ℕ → List ℕ
send_text v = codes " (send n0 " ++ decimal v ++ codes ")"

abbrev pub send_texts : List ℕ → List ℕ
send_texts [] = []
send_texts (v ∷ vs) = send_text v ++ send_texts vs

-- the three lines of a file: the graph, what is listened to, and the sender
abbrev pub graph_line : List Item → List ℕ
graph_line its = codes "(graph (sink n0 Int) (let c (hold 0 n0))" ++ item_texts 1 its ++ codes ")\n"

abbrev pub listen_line : ℕ → List ℕ
listen_line n = codes "(listen n" ++ decimal n ++ codes ")\n"

abbrev pub sender_line : List ℕ → List ℕ
sender_line vs = codes "(sender" ++ send_texts vs ++ codes ")\n"

-- the file of so many items, drawn from the state that is the start
abbrev pub generated : ℕ → ℕ → List ℕ
generated start count =
    graph_line (items count start) ++ listen_line count ++ sender_line (sends (min count 50) (after_items count start))
