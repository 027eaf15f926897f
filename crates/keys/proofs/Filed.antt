-- Files of keys: what is written is read back, and what is accepted is the one text that writes its keys. Assumes nothing.
use Rattle.std.proofs.Common.{◌≡◌, ℕ, zero, suc, ◌+◌, ◌*◌, ◌/◌, ◌%◌, ◌<◌, ◌≤◌, true, cond, ◌&&◌, eqb, leb, List, [], ◌∷◌, ◌++◌, length, get_or, take, drop, Ok, sym, refl, ap, ◌∙◌, arith, w8, Fits}
use Rattle.std.specs.Simd.{first_chunks}
use Rattle.std.specs.List.{flat_map, AllByRecursion}
use Rattle.std.specs.Int.Digits.{number_from_digits}
use Rattle.std.proofs.ByRecursion.{All-take, All-drop, All-from_get_or, All-weaker}
use Rattle.std.proofs.lemmas.List.{drop_at, length-append, length-drop, length-take-le, nil_from_length, take-append-drop, take_at}
use Rattle.std.proofs.lemmas.Bool.{and_parts, eq-eqb, eqb-true, le-leb, ne_eqb}
use Rattle.circuit.specs.Numbers.{digits}
use Rattle.circuit.specs.Refusals.{number_of, refuse}
use Rattle.circuit.specs.declared.refusals.Refusal.TheVariants.{Malformed, Count, Values}
use Rattle.circuit.proofs.AndThen.{then_is, then_ok, cond_ok}
use Rattle.circuit.proofs.Numbers.{two_bytes, length_digits, number_digits, digits_number}
use Rattle.scheme.specs.Bytes.{Block}
use Rattle.keys.specs.Drawing.{Bytes}
use Rattle.keys.specs.Files.{most_keys, keys_file, sixteens, key_count, parse_keys, keys_for}
use Rattle.keys.specs.Promises.{Accepts}

-- sixteen bytes each
abbrev pub Whole : List (List ℕ) → Type 0
Whole ks = AllByRecursion (λ k. length k ≡ 16) ks

pub whole_blocks : (ks : List (List ℕ)) → AllByRecursion Block ks → Whole ks
whole_blocks ks blocks = All-weaker Block (λ k. length k ≡ 16) (λ k block. block.0) ks blocks

-- keys one after the other
pub length_joined : (ks : List (List ℕ)) → Whole ks → length (flat_map (λ k. k) ks) ≡ 16 * length ks
length_joined [] whole = refl
length_joined (k ∷ ks) whole =
    let size : length k ≡ 16 = whole.0 in
    omega (arith, length-append k (flat_map (λ k. k) ks), length_joined ks whole.1)

pub sixteens_joined : (ks : List (List ℕ)) → Whole ks → sixteens (length ks) (flat_map (λ k. k) ks) ≡ ks
unfolding sixteens
sixteens_joined [] whole = refl
sixteens_joined (k ∷ ks) whole = rw (take_at k (flat_map (λ k. k) ks) 16 whole.0, drop_at k (flat_map (λ k. k) ks) 16 whole.0, sixteens_joined ks whole.1)

pub length_sixteens : (n : ℕ) (xs : List ℕ) → length (sixteens n xs) ≡ n
unfolding sixteens
length_sixteens zero xs = refl
length_sixteens (suc n) xs = ap suc (length_sixteens n (drop 16 xs))

pub joined_sixteens : (n : ℕ) (xs : List ℕ) → length xs ≡ 16 * n → flat_map (λ k. k) (sixteens n xs) ≡ xs
unfolding sixteens
joined_sixteens zero xs size = sym (nil_from_length xs size)
joined_sixteens (suc n) xs size =
    ap (λ r. take 16 xs ++ r) (joined_sixteens n (drop 16 xs) (omega (arith, length-drop 16 xs))) ∙ take-append-drop 16 xs

pub blocks_sixteens : (n : ℕ) (xs : List ℕ) → 16 * n ≤ length xs → Bytes xs → AllByRecursion Block (sixteens n xs)
unfolding sixteens
blocks_sixteens zero xs long bytes = tt
blocks_sixteens (suc n) xs long bytes = (
  (length-take-le 16 xs (omega arith), All-take (λ b. b < 256) 16 xs bytes),
  blocks_sixteens n (drop 16 xs) (omega (arith, length-drop 16 xs)) (All-drop (λ b. b < 256) 16 xs bytes),
)

-- they are chunks of an array's size
pub sixteens_chunks : (n : ℕ) (xs : List ℕ) → sixteens n xs ≡ first_chunks 16 n xs
unfolding sixteens
sixteens_chunks zero xs = refl
sixteens_chunks (suc n) xs = ap (λ ks. take 16 xs ∷ ks) (sixteens_chunks n (drop 16 xs))

-- a file's pieces, one after the other
pub file_pieces : {t₀ t₁ t₂ t₃ ns : List ℕ} (ks : List (List ℕ)) → t₀ ≡ [] → t₁ ≡ t₀ ++ (2 ∷ []) → ns ≡ length ks / 256 % 256 ∷ length ks % 256 ∷ [] → t₂ ≡ t₁ ++ ns →
    t₃ ≡ t₂ ++ flat_map (λ k. k) ks → t₃ ≡ keys_file ks
file_pieces ks none kind count head whole = whole ∙ rw (head, kind, none, count, two_bytes)

-- a whole file
module _ (ks : List (List ℕ)) (few : length ks ≤ most_keys) where
  count_back : key_count (keys_file ks) ≡ length ks
  count_back =
      ap (number_from_digits 256) (take_at (digits 256 2 (length ks)) (flat_map (λ k. k) ks) 2 (length_digits 256 2 (length ks)))
      ∙ number_digits 256 2 (length ks) (omega arith) (omega arith)

  pub file_back : Whole ks → parse_keys (keys_file ks) ≡ Ok ks
  file_back whole =
      let size : length (keys_file ks) ≡ 3 + 16 * length ks = omega (arith, length-append (digits 256 2 (length ks)) (flat_map (λ k. k) ks), length_digits 256 2 (length ks), length_joined ks whole) in
      rw (
        count_back,
        eq-eqb (length (keys_file ks)) (3 + 16 * length ks) size,
        le-leb (length ks) most_keys few,
        drop_at (digits 256 2 (length ks)) (flat_map (λ k. k) ks) 2 (length_digits 256 2 (length ks)),
        sixteens_joined ks whole,
      )

pub whole_back : (n : ℕ) (ks : List (List ℕ)) → length ks ≡ n → n ≤ most_keys → Whole ks → keys_for n (keys_file ks) ≡ Ok ks
whole_back n ks size few whole = then_is _ (file_back ks (omega arith) whole) ∙ rw (eq-eqb (length ks) n size)

pub keys_are_back : (n : ℕ) (ks : List (List ℕ)) → length ks ≡ n → n ≤ most_keys → AllByRecursion Block ks → keys_for n (keys_file ks) ≡ Ok ks
keys_are_back n ks size few blocks = whole_back n ks size few (whole_blocks ks blocks)

accepted_at : (text : List ℕ) → Bytes text → eqb (get_or text 0 0) 2 ≡ true → length text ≡ 3 + 16 * key_count text →
    let ks = sixteens (key_count text) (drop 3 text) in AllByRecursion Block ks × (keys_file ks ≡ text)
accepted_at [] bytes kind size = absurd (omega arith)
accepted_at (a ∷ []) bytes kind size = absurd (omega arith)
accepted_at (a ∷ b ∷ []) bytes kind size = absurd (omega arith)
accepted_at (a ∷ b ∷ c ∷ xs) bytes kind size =
    let n = key_count (a ∷ b ∷ c ∷ xs) in
    let rest : length xs ≡ 16 * n = omega arith in
    let is : a ≡ 2 = eqb-true a 2 kind in
    let count : digits 256 2 n ≡ b ∷ c ∷ [] = digits_number 256 2 (b ∷ c ∷ []) (bytes.1.0, (bytes.1.1.0, tt)) refl in
    (blocks_sixteens n xs (omega arith) bytes.1.1.1, rw (length_sixteens n xs, count, joined_sixteens n xs rest, is))

-- what is accepted is blocks, and the text is the one that writes them
pub file_accepted : (text : List ℕ) (ks : List (List ℕ)) → Bytes text → parse_keys text ≡ Ok ks → AllByRecursion Block ks × (keys_file ks ≡ text)
file_accepted text ks bytes e =
    let whole = eqb (get_or text 0 0) 2 && eqb (length text) (3 + 16 * key_count text) in
    let found = Ok (sixteens (key_count text) (drop 3 text)) in
    let a = cond_ok {y = ks} whole (cond (leb (key_count text) most_keys) found (refuse Count)) (number_of Malformed) e in
    let b = cond_ok {y = ks} (leb (key_count text) most_keys) found (number_of Count) a.1 in
    let parts = and_parts (eqb (get_or text 0 0) 2) (eqb (length text) (3 + 16 * key_count text)) a.0 in
    let same : ks ≡ sixteens (key_count text) (drop 3 text) = cc b.1 in
    rw same (accepted_at text bytes parts.0 (eqb-true (length text) (3 + 16 * key_count text) parts.1))

pub keys_accepted : (n : ℕ) (text : List ℕ) (ks : List (List ℕ)) → Bytes text → keys_for n text ≡ Ok ks → (length ks ≡ n) × AllByRecursion Block ks × (keys_file ks ≡ text)
keys_accepted n text ks bytes e =
    then_ok (parse_keys text) _ e (λ js came e.
    let t = cond_ok {y = ks} (eqb (length js) n) (Ok js) (number_of Values) e in
    let same : ks ≡ js = cc t.1 in
    let file = file_accepted text js bytes came in
    rw same (eqb-true (length js) n t.0, file.0, file.1))

pub laws_of : (count : ℕ) (text : List ℕ) → ((i : ℕ) → Fits w8 (get_or text i 0)) → Accepts count text
laws_of count text typed =
    let bytes : Bytes text = All-from_get_or (λ b. b < 256) text 0 (λ i _. (typed i).fits) in
    record {
      well_formed = λ ks e. let all = keys_accepted count text ks bytes e in (all.0, all.1);
      one_text = λ ks e. (keys_accepted count text ks bytes e).2;
    }

-- a file that is good, for as many keys as are told
module _ (count : ℕ) (text rest : List ℕ) (good : parse_keys text ≡ Ok (sixteens (length rest / 16) rest)) where
  pub count_fits : length rest / 16 ≡ count → keys_for count text ≡ Ok (sixteens (length rest / 16) rest)
  count_fits same = then_is _ good ∙ rw (eq-eqb (length (sixteens (length rest / 16) rest)) count (length_sixteens (length rest / 16) rest ∙ same))

  pub count_differs : (length rest / 16 ≡ count → ⊥) → keys_for count text ≡ refuse Values
  count_differs other = then_is _ good ∙ rw (ne_eqb (length (sixteens (length rest / 16) rest)) count (λ e. other (sym (length_sixteens (length rest / 16) rest) ∙ e)))

-- any keys that are not too many, of which each has its sixteen bytes
pub all_back : (ks : List (List ℕ)) → ((i : ℕ) → i < length ks → length (get_or ks i []) ≡ 16) → length ks ≤ most_keys → keys_for (length ks) (keys_file ks) ≡ Ok ks
all_back ks each few = whole_back (length ks) ks refl few (All-from_get_or (λ k. length k ≡ 16) ks [] each)
