-- Keys are drawn from the front of the bytes, and what follows does not matter. Assumes nothing.
use Rattle.std.proofs.Common.{◌≡◌, ℕ, zero, suc, ◌*◌, ◌≤◌, Bool, true, false, cond, leb, List, ◌∷◌, ◌++◌, length, take, drop, Ok, sym, refl, ap, ◌∙◌, arith}
use Rattle.std.proofs.lemmas.List.{append_assoc, length-append, length-take-le, take-append-drop, take_at, drop_at}
use Rattle.std.proofs.lemmas.Bool.{leb-true, le-leb}
use Rattle.circuit.specs.Format.{Part}
use Rattle.circuit.specs.Refusals.{◌and_then◌}
use Rattle.circuit.proofs.AndThen.{no_answer, then_is, then_ok, cond_ok}
use Rattle.keys.specs.Drawing.{stem, among, fresh, draw_key, draw_keys}

-- the bytes that a key is drawn from, some sixteens
pub record Cut (seen xs k rest : List ℕ) : Type 0 where
  pub front : List ℕ
  pub tries : ℕ
  pub whole : xs ≡ front ++ rest
  pub size : length front ≡ 16 * tries
  pub again : (ys : List ℕ) (m : ℕ) → tries ≤ m → fresh seen m (front ++ ys) ≡ Ok (k, ys)

module _ (seen xs : List ℕ) (enough : 16 ≤ length xs) where
  front_size : length (take 16 xs) ≡ 16
  front_size = length-take-le 16 xs enough

  fresh_hit : (ys : List ℕ) (m : ℕ) → 1 ≤ m → among seen (stem (take 16 xs)) ≡ false → fresh seen m (take 16 xs ++ ys) ≡ Ok (take 16 xs, ys)
  unfolding fresh
  fresh_hit ys zero few new = absurd (omega arith)
  fresh_hit ys (suc m) few new =
      let long : leb 16 (length (take 16 xs ++ ys)) ≡ true = le-leb 16 (length (take 16 xs ++ ys)) (omega (arith, length-append (take 16 xs) ys, front_size)) in
      rw (long, take_at (take 16 xs) ys 16 front_size, drop_at (take 16 xs) ys 16 front_size, new)

  fresh_miss : (ys : List ℕ) (m : ℕ) → among seen (stem (take 16 xs)) ≡ true → fresh seen (suc m) (take 16 xs ++ ys) ≡ fresh seen m ys
  unfolding fresh
  fresh_miss ys m old =
      let long : leb 16 (length (take 16 xs ++ ys)) ≡ true = le-leb 16 (length (take 16 xs ++ ys)) (omega (arith, length-append (take 16 xs) ys, front_size)) in
      rw (long, take_at (take 16 xs) ys 16 front_size, drop_at (take 16 xs) ys 16 front_size, old)

pub fresh_cut : (seen : List ℕ) (n : ℕ) (xs k rest : List ℕ) → fresh seen n xs ≡ Ok (k, rest) → Cut seen xs k rest
unfolding fresh
fresh_cut seen zero xs k rest is = no_answer is
fresh_cut seen (suc n) xs k rest is =
    let both = cond_ok (leb 16 (length xs)) (cond (among seen (stem (take 16 xs))) (fresh seen n (drop 16 xs)) (Ok (take 16 xs, drop 16 xs))) 6 is in
    let enough = leb-true 16 (length xs) both.0 in
    go enough (among seen (stem (take 16 xs))) refl both.1 (λ e. fresh_cut seen n (drop 16 xs) k rest e)
  where
    go : 16 ≤ length xs → (b : Bool) → among seen (stem (take 16 xs)) ≡ b → cond b (fresh seen n (drop 16 xs)) (Ok (take 16 xs, drop 16 xs)) ≡ Ok (k, rest) →
        (fresh seen n (drop 16 xs) ≡ Ok (k, rest) → Cut seen (drop 16 xs) k rest) → Cut seen xs k rest
    go enough false new e more =
        let pair : ◌≡◌ {A = List ℕ × List ℕ} (k, rest) (take 16 xs, drop 16 xs) = cc in
        let first : k ≡ take 16 xs = ap (λ (p : List ℕ × List ℕ). p.0) pair in
        let left : rest ≡ drop 16 xs = ap (λ (p : List ℕ × List ℕ). p.1) pair in
        record {
          front = take 16 xs;
          tries = 1;
          whole = rw left (sym (take-append-drop 16 xs));
          size = length-take-le 16 xs enough;
          again = λ ys m some. rw first (fresh_hit seen xs enough ys m some new);
        }
    go enough true old e more =
        let later = more e in
        record {
          front = take 16 xs ++ later.front;
          tries = suc later.tries;
          whole = sym (take-append-drop 16 xs) ∙ ap (λ l. take 16 xs ++ l) later.whole ∙ sym (append_assoc (take 16 xs) later.front rest);
          size = length-append (take 16 xs) later.front ∙ omega (arith, length-take-le 16 xs enough, later.size);
          again = λ ys m some. fewer later ys m some;
        }
      where
        fewer : (later : Cut seen (drop 16 xs) k rest) (ys : List ℕ) (m : ℕ) → suc later.tries ≤ m → fresh seen m ((take 16 xs ++ later.front) ++ ys) ≡ Ok (k, ys)
        fewer later ys zero some = absurd (omega arith)
        fewer later ys (suc m) some =
            ap (fresh seen (suc m)) (append_assoc (take 16 xs) later.front ys) ∙ fresh_miss seen xs enough (later.front ++ ys) m old ∙ later.again ys m (omega arith)

-- the bytes that both keys of a wire are drawn from
pub record KeysCut (seen xs : List ℕ) (ks : List ℕ × List ℕ) (rest : List ℕ) : Type 0 where
  pub front : List ℕ
  pub whole : xs ≡ front ++ rest
  pub again : (ys : List ℕ) → draw_keys seen (front ++ ys) ≡ Ok (ks, ys)

key_again : (seen xs k rest : List ℕ) → (c : Cut seen xs k rest) → (ys : List ℕ) → draw_key seen (c.front ++ ys) ≡ Ok (k, ys)
key_again seen xs k rest c ys = c.again ys (length (c.front ++ ys)) (omega (arith, length-append c.front ys, c.size))

pub keys_cut : (seen xs : List ℕ) (ks : List ℕ × List ℕ) (rest : List ℕ) → draw_keys seen xs ≡ Ok (ks, rest) → KeysCut seen xs ks rest
keys_cut seen xs ks rest is =
    then_ok (draw_key seen xs) (λ z. draw_key (stem z.0 ∷ seen) z.1 and_then λ o. Ok ((z.0, o.0), o.1)) is (λ z zero_is more.
    then_ok (draw_key (stem z.0 ∷ seen) z.1) (λ o. Ok ((z.0, o.0), o.1)) more (λ o one_is last. joined z zero_is o one_is last))
  where
    joined : (z : List ℕ × List ℕ) → draw_key seen xs ≡ Ok z → (o : List ℕ × List ℕ) → draw_key (stem z.0 ∷ seen) z.1 ≡ Ok o →
        ◌≡◌ {A = Part (List ℕ × List ℕ)} (Ok ((z.0, o.0), o.1)) (Ok (ks, rest)) → KeysCut seen xs ks rest
    joined z zero_is o one_is last =
        let first = fresh_cut seen (length xs) xs z.0 z.1 zero_is in
        let second = fresh_cut (stem z.0 ∷ seen) (length z.1) z.1 o.0 o.1 one_is in
        let pair : ◌≡◌ {A = (List ℕ × List ℕ) × List ℕ} ((z.0, o.0), o.1) (ks, rest) = cc in
        let keys : (z.0, o.0) ≡ ks = ap (λ (p : (List ℕ × List ℕ) × List ℕ). p.0) pair in
        let left : o.1 ≡ rest = ap (λ (p : (List ℕ × List ℕ) × List ℕ). p.1) pair in
        record {
          front = first.front ++ second.front;
          whole =
              first.whole ∙ ap (λ l. first.front ++ l) (second.whole ∙ ap (λ l. second.front ++ l) left) ∙ sym (append_assoc first.front second.front rest);
          again = λ ys.
              ap (draw_keys seen) (append_assoc first.front second.front ys)
              ∙ then_is (λ z. draw_key (stem z.0 ∷ seen) z.1 and_then λ o. Ok ((z.0, o.0), o.1)) (key_again seen xs z.0 z.1 first (second.front ++ ys))
              ∙ then_is (λ q. Ok ((z.0, q.0), q.1)) (key_again (stem z.0 ∷ seen) z.1 o.0 o.1 second ys)
              ∙ ap (λ p. Ok (p, ys)) keys;
        }
