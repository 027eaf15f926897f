-- What the reader accepts is well-formed, and its bytes are those that write it: for each part, for many parts, for the whole. Assumes nothing.
use Rattle.std.proofs.Common.{◌≡◌, ℕ, zero, suc, ◌+◌, ◌<◌, ◌≤◌, Bool, true, false, cond, ◌&&◌, eqb, ltb, leb, List, [], ◌∷◌, ◌++◌, length, get_or, take, drop, Some, None, Ok, sym, refl, ap, ◌∙◌, append_assoc, arith}
use Rattle.std.specs.Int.Digits.{number_from_digits, AllBelowBase}
use Rattle.std.specs.List.{flat_map}
use Rattle.std.specs.Option.{ok_or}
use Rattle.std.proofs.ByRecursion.{All-take, All-drop}
use Rattle.std.proofs.lemmas.List.{take-append-drop, length-take-le, append-nil, nil_from_length}
use Rattle.std.proofs.lemmas.Bool.{leb-true, ltb-true, eqb-true, and_parts}
use Rattle.circuit.specs.Numbers.{digits, bits, binary}
use Rattle.circuit.specs.Circuit.{Circuit, GoodGate, WellFormed, no_gate, most_inputs, most_gates, most_outputs}
use Rattle.circuit.specs.Format.{Part, field, count, wire, gate, gate_of, checked, gate_bytes, many, kind, head, outputs, assembled, encode, parse}
use Rattle.circuit.specs.Refusals.{number_of, refuse}
use Rattle.circuit.specs.declared.gates.Gate.{Gate}
use Rattle.circuit.specs.declared.reading.Head.{Head}
use Rattle.circuit.specs.declared.refusals.Refusal.TheVariants.{Malformed, Count, NotMade, Table}
use Rattle.circuit.proofs.AndThen.{no_answer, then_ok, cond_ok}
use Rattle.circuit.proofs.Numbers.{one_byte, digits_number, binary_bits, length_bits}

after : {A : Type 0} {t x y : List A} (a : List A) → t ≡ a ++ x → x ≡ y → t ≡ a ++ y
after a p q = p ∙ ap (λ z. a ++ z) q

-- p was read from the bytes that write it, and bytes are left
abbrev pub From : {X : Type 0} → (X → List ℕ) → List ℕ → X × List ℕ → Type 0
From write text p = (text ≡ write p.0 ++ p.1) × AllBelowBase 256 p.1

field_from : (n : ℕ) (text : List ℕ) (p : ℕ × List ℕ) → AllBelowBase 256 text → field n text ≡ Ok p → From (digits 256 n) text p
field_from n text p under e = go (leb n (length text)) refl e
  where
    go : (b : Bool) → leb n (length text) ≡ b → ok_or (cond b (Some (number_from_digits 256 (take n text), drop n text)) None) (number_of Malformed) ≡ Ok p → From (digits 256 n) text p
    go true long e =
        let value : p.0 ≡ number_from_digits 256 (take n text) = cc in
        let rest : p.1 ≡ drop n text = cc in
        let fits : length (take n text) ≡ n = length-take-le n text (leb-true n (length text) long) in
        let bytes = digits_number 256 n (take n text) (All-take (λ d. d < 256) n text under) fits in (
          rw (value, rest, bytes) (sym (take-append-drop n text)),
          rw rest (All-drop (λ d. d < 256) n text under),
        )
    go false short e = no_answer e

count_from : (n most : ℕ) (text : List ℕ) (p : ℕ × List ℕ) → AllBelowBase 256 text → count n most text ≡ Ok p → From (digits 256 n) text p × (p.0 ≤ most)
count_from n most text p under e =
    then_ok (field n text) _ e (λ q came e.
    let t = cond_ok (leb q.0 most) (Ok q) (number_of Count) e in
    let same : q ≡ p = cc t.1 in
    rw (← same) (field_from n text q under came, leb-true q.0 most t.0))

wire_from : (made : ℕ) (text : List ℕ) (p : ℕ × List ℕ) → AllBelowBase 256 text → wire made text ≡ Ok p → From (digits 256 4) text p × (p.0 < made)
wire_from made text p under e =
    then_ok (field 4 text) _ e (λ q came e.
    let t = cond_ok (ltb q.0 made) (Ok q) (number_of NotMade) e in
    let same : q ≡ p = cc t.1 in
    rw (← same) (field_from 4 text q under came, ltb-true q.0 made t.0))

kind_from : (k : ℕ) (text rest : List ℕ) → AllBelowBase 256 text → k < 256 → kind k text ≡ Ok rest → (text ≡ k ∷ rest) × AllBelowBase 256 rest
kind_from k text rest under small e =
    then_ok (field 1 text) _ e (λ q came e.
    let t = cond_ok (eqb q.0 k) (Ok q.1) (number_of Malformed) e in
    let same : q.1 ≡ rest = cc t.1 in
    let is : q.0 ≡ k = eqb-true q.0 k t.0 in
    let from = field_from 1 text q under came in
    (from.0 ∙ rw (is, same, one_byte k small), rw (← same) from.1))

checked_from : (made left right gives : ℕ) (text rest : List ℕ) (p : Gate × List ℕ) → text ≡ digits 256 4 left ++ (digits 256 4 right ++ (digits 256 1 gives ++ rest)) →
    AllBelowBase 256 rest → checked made left right gives rest ≡ Ok p → From gate_bytes text p × GoodGate made p.0
checked_from made left right gives text rest p is bytes e =
    let a = cond_ok {y = p} (ltb left made && ltb right made) (cond (leb gives 15) (Ok (gate_of left right gives, rest)) (refuse Table)) (number_of NotMade) e in
    let b = cond_ok {y = p} (leb gives 15) (Ok (gate_of left right gives, rest)) (number_of Table) a.1 in
    let both = and_parts (ltb left made) (ltb right made) a.0 in
    let small : gives ≤ 15 = leb-true gives 15 b.0 in
    let same : p ≡ (gate_of left right gives, rest) = cc b.1 in
    let one : digits 256 1 gives ≡ gives ∷ [] = one_byte gives (omega arith) in
    let back : binary (bits 4 gives) ≡ gives = binary_bits 4 gives (omega arith) in
    rw same (
      (is ∙ rw (one, back) (simp (append_assoc, append-nil)), bytes),
      (refl, ltb-true left made both.0, ltb-true right made both.1, length_bits 4 gives),
    )

gate_from : (made : ℕ) (text : List ℕ) (p : Gate × List ℕ) → AllBelowBase 256 text → gate made text ≡ Ok p → From gate_bytes text p × GoodGate made p.0
gate_from made text p under e =
    then_ok (field 4 text) _ e (λ l came_l e.
    then_ok (field 4 l.1) _ e (λ r came_r e.
    then_ok (field 1 r.1) _ e (λ t came_t e.
    let l_from = field_from 4 text l under came_l in
    let r_from = field_from 4 l.1 r l_from.1 came_r in
    let t_from = field_from 1 r.1 t r_from.1 came_t in
    checked_from made l.0 r.0 t.0 text t.1 p
    (after (digits 256 4 l.0) l_from.0 (after (digits 256 4 r.0) r_from.0 t_from.0)) t_from.1 e)))

-- ys are n items, the first of them number k, read from text
Items : {X : Type 0} → (X → List ℕ) → (ℕ → X → Type 0) → ℕ → ℕ → List ℕ → List X → List ℕ → Type 0
Items {X} write Good n k text ys rest = (length ys ≡ n) × From (flat_map write) text (ys, rest) × ((j : ℕ) (d : X) → j < n → Good (k + j) (get_or ys j d))

module _ {X : Type 0} (one : ℕ → List ℕ → Part X) (write : X → List ℕ) (Good : ℕ → X → Type 0)
    (step : (k : ℕ) (text : List ℕ) (p : X × List ℕ) → AllBelowBase 256 text → one k text ≡ Ok p → From write text p × Good k p.0) where
  items_more : (n k : ℕ) (text between rest : List ℕ) (x : X) (ys : List X) → From write text (x, between) → Good k x → Items write Good n (k + 1) between ys rest →
      Items write Good (suc n) k text (x ∷ ys) rest
  unfolding Items
  items_more n k text between rest x ys from good more = (
    ap suc more.0,
    (after (write x) from.0 more.1.0 ∙ sym (append_assoc (write x) (flat_map write ys) rest), more.1.1),
    each,
  )
    where
      each : (j : ℕ) (d : X) → j < suc n → Good (k + j) (get_or (x ∷ ys) j d)
      each zero d below = let same : k + 0 ≡ k = omega arith in rw same good
      each (suc j) d below = let same : k + suc j ≡ k + 1 + j = omega arith in rw same (more.2 j d (omega arith))

  many_from : (n k : ℕ) (text : List ℕ) (p : List X × List ℕ) → AllBelowBase 256 text → many one n k text ≡ Ok p → Items write Good n k text p.0 p.1
  unfolding many Items
  many_from zero k text p under e =
      let same : p ≡ ([], text) = cc in
      rw same (refl, (refl, under), λ j d below. absurd (omega arith))
  many_from (suc n) k text p under e =
      then_ok (one k text) _ e (λ q came e.
      then_ok (many one n (k + 1) q.1) _ e (λ m came_rest e.
      let s = step k text q under came in
      let same : p ≡ (q.0 ∷ m.0, m.1) = cc in
      rw same (items_more n k text q.1 m.1 q.0 m.0 s.0 s.1 (many_from n (k + 1) q.1 m s.0.1 came_rest))))

head_from : (text : List ℕ) (p : Head × List ℕ) → AllBelowBase 256 text → head text ≡ Ok p →
    (text ≡ 1 ∷ (digits 256 2 p.0.inputs ++ (digits 256 2 p.0.opener ++ (digits 256 4 p.0.gates ++ p.1)))) × AllBelowBase 256 p.1
    × (p.0.inputs ≤ most_inputs) × (p.0.opener ≤ p.0.inputs) × (p.0.gates ≤ most_gates)
head_from text p under e =
    then_ok (kind 1 text) _ e (λ ys came_k e.
    then_ok (count 2 most_inputs ys) _ e (λ n came_n e.
    then_ok (count 2 n.0 n.1) _ e (λ o came_o e.
    then_ok (count 4 most_gates o.1) _ e (λ g came_g e.
    let same : p ≡ (record { inputs = n.0; opener = o.0; gates = g.0 }, g.1) = cc in
    let k_from = kind_from 1 text ys under (omega arith) came_k in
    let n_from = count_from 2 most_inputs ys n k_from.1 came_n in
    let o_from = count_from 2 n.0 n.1 o n_from.0.1 came_o in
    let g_from = count_from 4 most_gates o.1 g o_from.0.1 came_g in
    rw same (
      k_from.0 ∙ ap (λ zs. 1 ∷ zs) (after (digits 256 2 n.0) n_from.0.0 (after (digits 256 2 o.0) o_from.0.0 g_from.0.0)),
      g_from.0.1,
      n_from.1,
      o_from.1,
      g_from.1,
    )))))

-- a whole text, from the parts that were read
whole : (h : Head) (gs : List Gate) (ws : List ℕ) (n : ℕ) (text a b d r : List ℕ) →
    text ≡ 1 ∷ (digits 256 2 h.inputs ++ (digits 256 2 h.opener ++ (digits 256 4 h.gates ++ a))) →
    h.inputs ≤ most_inputs → h.opener ≤ h.inputs → h.gates ≤ most_gates → n ≤ most_outputs →
    Items gate_bytes GoodGate h.gates h.inputs a gs b → b ≡ digits 256 2 n ++ d →
    Items (digits 256 4) (λ _ w. w < h.inputs + h.gates) n 0 d ws r → length r ≡ 0 → WellFormed (assembled h gs ws) × (encode (assembled h gs ws) ≡ text)
unfolding Items
whole h gs ws n text a b d r head-is few within most-gates most-outputs gates-are count-is outputs-are end =
    let g : length gs ≡ h.gates = gates-are.0 in
    let w : length ws ≡ n = outputs-are.0 in (
      (
        few,
        within,
        omega arith,
        omega arith,
        (λ k below. gates-are.2 k no_gate (omega arith)),
        (λ k below. rw g (outputs-are.2 k 0 (omega arith))),
      ),
      rw (g, w) (sym (head-is ∙ rw (gates-are.1.0, count-is, outputs-are.1.0, nil_from_length r end) (simp append-nil))),
    )

pub accepted : (text : List ℕ) (c : Circuit) → AllBelowBase 256 text → parse text ≡ Ok c → WellFormed c × (encode c ≡ text)
unfolding Items
accepted text c under e =
    then_ok (head text) _ e (λ h came_h e.
    then_ok (many gate h.0.gates h.0.inputs h.1) _ e (λ g came_g e.
    then_ok (outputs (h.0.inputs + h.0.gates) g.1) _ e (λ o came_o e.
    then_ok (count 2 most_outputs g.1) _ came_o (λ n came_n came_w.
    let made = h.0.inputs + h.0.gates in
    let h_from = head_from text h under came_h in
    let g_from = many_from gate gate_bytes GoodGate gate_from h.0.gates h.0.inputs h.1 g h_from.1 came_g in
    let n_from = count_from 2 most_outputs g.1 n g_from.1.1 came_n in
    let w_from = many_from (λ _. wire made) (digits 256 4) (λ _ w. w < made) (λ _. wire_from made) n.0 0 n.1 o n_from.0.1 came_w in
    let t = cond_ok {y = c} (eqb (length o.1) 0) (Ok (assembled h.0 g.0 o.0)) (number_of Malformed) e in
    let same : c ≡ assembled h.0 g.0 o.0 = cc t.1 in
    rw same
    (whole h.0 g.0 o.0 n.0 text h.1 g.1 n.1 o.1 h_from.0 h_from.2 h_from.3 h_from.4 n_from.1 g_from n_from.0.0
    w_from (eqb-true (length o.1) 0 t.0))))))
