-- Rows of one width, one after another. `rows_of` cuts numbers into rows and `flatten` puts rows together; each undoes the other. So what
-- lies between two rows of the numbers is what lies between the same two places of the list of rows.
use Rattle.std.proofs.Common.{◌≡◌, ℕ, zero, suc, ◌+◌, ◌-◌, ◌*◌, ◌<◌, ◌≤◌, List, [], ◌∷◌, ◌++◌, map, length, get_or, take, drop, sym, refl, ap, ◌∙◌, append_assoc, mul-zero, mul-suc, arith, length-append, length-drop, length-take, take-add}
use mathlib.Core.List.{flatten}
use native.Mathlib.Nat.{mul-sub}
use lib.Seq.{take-nil, drop-nil}
use Rattle.std.specs.List.{between, AllByRecursion as All}
use Rattle.std.proofs.lemmas.List.{take_at, drop_at, take-take, take-append-drop, length-take-le, drop-drop, drop-take, append-nil, map_more}
use Rattle.std.proofs.lemmas.Slice.{between_is}
use Rattle.std.proofs.ByRecursion.{All-append, All-drop}
use Rattle.theory.specs.Row.{Row, rows_of}

-- each row has w numbers
abbrev pub Wide : ℕ → List Row → Type 0
Wide w rows = All (λ r. length r ≡ w) rows

pub flatten_append : {X : Type 0} (ls ms : List (List X)) → flatten (ls ++ ms) ≡ flatten ls ++ flatten ms
unfolding flatten
flatten_append [] ms = refl
flatten_append (l ∷ ls) ms = ap (λ z. l ++ z) (flatten_append ls ms) ∙ sym (append_assoc l (flatten ls) (flatten ms))

pub flatten_push : {X : Type 0} (ls : List (List X)) (l : List X) → flatten (ls ++ l ∷ []) ≡ flatten ls ++ l
unfolding flatten
flatten_push ls l = flatten_append ls (l ∷ []) ∙ ap (λ z. flatten ls ++ z) (append-nil l)

pub flatten_map_more : {X Y : Type 0} (f : X → List Y) (xs : List X) (i : ℕ) (d : X) → i < length xs →
    flatten (map f (take (i + 1) xs)) ≡ flatten (map f (take i xs)) ++ f (get_or xs i d)
flatten_map_more f xs i d h = ap flatten (map_more f xs i d h) ∙ flatten_push (map f (take i xs)) (f (get_or xs i d))

pub length_flatten_take : {X : Type 0} (n : ℕ) (ls : List (List X)) → length (flatten (take n ls)) ≤ length (flatten ls)
length_flatten_take n ls =
    let a = ap (λ z. length (flatten z)) (take-append-drop n ls) in
    let b = ap length (flatten_append (take n ls) (drop n ls)) in
    let c = length-append (flatten (take n ls)) (flatten (drop n ls)) in omega arith

pub all_flatten : {X : Type 0} (P : X → Type 0) (ls : List (List X)) → All (All P) ls → All P (flatten ls)
unfolding flatten
all_flatten P [] h = tt
all_flatten P (l ∷ ls) h = All-append P l (flatten ls) h.0 (all_flatten P ls h.1)

-- cut again, and put together again
pub rows_of_flatten_front : (w : ℕ) (rows : List Row) (rest : Row) → Wide w rows → rows_of w (length rows) (flatten rows ++ rest) ≡ rows
unfolding rows_of flatten
rows_of_flatten_front w [] rest h = refl
rows_of_flatten_front w (r ∷ rs) rest h =
    let e = append_assoc r (flatten rs) rest in
    let a = take_at r (flatten rs ++ rest) w h.0 in
    let b = drop_at r (flatten rs ++ rest) w h.0 in
    let ih = rows_of_flatten_front w rs rest h.1 in
    rw (e, a, b) (ap (λ rows. r ∷ rows) ih)

pub rows_of_flatten : (w : ℕ) (rows : List Row) → Wide w rows → rows_of w (length rows) (flatten rows) ≡ rows
rows_of_flatten w rows h = ap (rows_of w (length rows)) (sym (append-nil (flatten rows))) ∙ rows_of_flatten_front w rows [] h

pub length_flatten_rows : (w : ℕ) (rows : List Row) → Wide w rows → length (flatten rows) ≡ w * length rows
unfolding flatten
length_flatten_rows w [] h = sym (mul-zero w)
length_flatten_rows w (r ∷ rs) h =
    let a = length-append r (flatten rs) in let b = h.0 in let ih = length_flatten_rows w rs h.1 in let c = mul-suc w (length rs) in omega arith

pub flatten_rows_of : (w k : ℕ) (xs : Row) → w * k ≤ length xs → flatten (rows_of w k xs) ≡ take (w * k) xs
unfolding rows_of flatten
flatten_rows_of w zero xs h = rw mul-zero
flatten_rows_of w (suc k) xs h =
    let m = mul-suc w k in
    let d = length-drop w xs in
    let e : w * suc k ≡ w + w * k = omega arith in
    let ih = flatten_rows_of w k (drop w xs) (omega arith) in
    ap (λ z. take w xs ++ z) ih ∙ sym (rw e (take-add w (w * k) xs))

-- each by its place
pub length_rows_of : (w k : ℕ) (xs : Row) → length (rows_of w k xs) ≡ k
unfolding rows_of
length_rows_of w zero xs = refl
length_rows_of w (suc k) xs = ap suc (length_rows_of w k (drop w xs))

pub rows_of_wide : (w k : ℕ) (xs : Row) → w * k ≤ length xs → Wide w (rows_of w k xs)
unfolding rows_of
rows_of_wide w zero xs h = tt
rows_of_wide w (suc k) xs h =
    let m = mul-suc w k in let l = length-take w xs in let d = length-drop w xs in
    (omega arith, rows_of_wide w k (drop w xs) (omega arith))

pub rows_of_long : (w k : ℕ) (xs : Row) → Wide w (rows_of w k xs) → w * k ≤ length xs
unfolding rows_of
rows_of_long w zero xs h = rw mul-zero (omega arith)
rows_of_long w (suc k) xs h =
    let m = mul-suc w k in let l = length-take w xs in let d = length-drop w xs in
    let e = h.0 in let ih = rows_of_long w k (drop w xs) h.1 in omega arith

pub length_flatten_rows_of : (w k : ℕ) (xs : Row) → w * k ≤ length xs → length (flatten (rows_of w k xs)) ≡ w * k
length_flatten_rows_of w k xs h = length_flatten_rows w (rows_of w k xs) (rows_of_wide w k xs h) ∙ ap (λ n. w * n) (length_rows_of w k xs)

pub rows_of_take : (w k n : ℕ) (xs : Row) → w * k ≤ n → rows_of w k (take n xs) ≡ rows_of w k xs
unfolding rows_of
rows_of_take w zero n xs h = refl
rows_of_take w (suc k) n xs h =
    let m = mul-suc w k in
    let a = take-take w n xs (omega arith) in
    let e : w + (n - w) ≡ n = omega arith in
    let b = drop-take w (n - w) xs in
    let ih = rows_of_take w k (n - w) (drop w xs) (omega arith) in
    let b' : drop w (take n xs) ≡ take (n - w) (drop w xs) = rw e at b in
    let c = ap (rows_of w k) b' in cc

pub take_rows_of : (w j k : ℕ) (xs : Row) → j ≤ k → take j (rows_of w k xs) ≡ rows_of w j xs
unfolding rows_of
take_rows_of w zero k xs h = refl
take_rows_of w (suc j) zero xs h = absurd (omega arith)
take_rows_of w (suc j) (suc k) xs h = ap (λ z. take w xs ∷ z) (take_rows_of w j k (drop w xs) (omega arith))

pub drop_rows_of : (w j k : ℕ) (xs : Row) → drop j (rows_of w k xs) ≡ rows_of w (k - j) (drop (w * j) xs)
unfolding rows_of
drop_rows_of w zero k xs = let e : k - 0 ≡ k = omega arith in rw (mul-zero, e)
drop_rows_of w (suc j) zero xs = let e : 0 - suc j ≡ 0 = omega arith in rw e
drop_rows_of w (suc j) (suc k) xs =
    let m = mul-suc w j in
    let n : w + w * j ≡ w * suc j = omega arith in
    let e : suc k - suc j ≡ k - j = omega arith in
    drop_rows_of w j k (drop w xs) ∙ rw (drop-drop, n, e)

pub between_rows_of : (w i j k : ℕ) (xs : Row) → j ≤ k → between i j (rows_of w k xs) ≡ rows_of w (j - i) (between (w * i) (w * j) xs)
between_rows_of w i j k xs h =
    let m = mul-sub w j i in
    ap (take (j - i)) (drop_rows_of w i k xs)
    ∙ take_rows_of w (j - i) (k - i) (drop (w * i) xs) (omega arith)
    ∙ sym (rows_of_take w (j - i) (w * j - w * i) (drop (w * i) xs) (omega arith))

-- some rows, and then the others
pub rows_of_split : (w i m : ℕ) (xs : Row) → rows_of w (i + m) xs ≡ rows_of w i xs ++ rows_of w m (drop (w * i) xs)
unfolding rows_of
rows_of_split w zero m xs = let n : 0 + m ≡ m = omega arith in rw (n, mul-zero)
rows_of_split w (suc i) m xs =
    let k = mul-suc w i in
    let n : w + w * i ≡ w * suc i = omega arith in
    let e : suc i + m ≡ suc (i + m) = omega arith in
    rw e (ap (λ z. take w xs ∷ z) (rw (drop-drop, n) at (rows_of_split w i m (drop w xs))))

pub rows_of_more : (w k : ℕ) (xs : Row) → rows_of w (k + 1) xs ≡ rows_of w k xs ++ take w (drop (w * k) xs) ∷ []
unfolding rows_of
rows_of_more w k xs = rows_of_split w k 1 xs

pub get_or_rows_of : (w k i : ℕ) (xs : Row) → i < k → get_or (rows_of w k xs) i [] ≡ take w (drop (w * i) xs)
unfolding rows_of
get_or_rows_of w zero i xs h = absurd (omega arith)
get_or_rows_of w (suc k) zero xs h = rw mul-zero
get_or_rows_of w (suc k) (suc i) xs h =
    let m = mul-suc w i in
    let n : w + w * i ≡ w * suc i = omega arith in
    rw (drop-drop, n) at (get_or_rows_of w k i (drop w xs) (omega arith))

-- one row more is written behind the first n
pub rows_of_put : (w n : ℕ) (xs row rest : Row) → w * n ≤ length xs → length row ≡ w →
    rows_of w (n + 1) (take (w * n) xs ++ (row ++ rest)) ≡ rows_of w n xs ++ row ∷ []
rows_of_put w n xs row rest h l =
    let ys : Row = take (w * n) xs ++ (row ++ rest) in
    let m = length-take-le (w * n) xs h in
    let front : rows_of w n ys ≡ rows_of w n xs =
    sym (rows_of_take w n (w * n) ys (omega arith)) ∙ ap (rows_of w n) (take_at (take (w * n) xs) (row ++ rest) (w * n) m)
    ∙ rows_of_take w n (w * n) xs (omega arith) in
    let back : take w (drop (w * n) ys) ≡ row =
    ap (take w) (drop_at (take (w * n) xs) (row ++ rest) (w * n) m) ∙ take_at row rest w l in
    rows_of_more w n ys ∙ ap (λ z. z ++ take w (drop (w * n) ys) ∷ []) front ∙ ap (λ z. rows_of w n xs ++ z ∷ []) back

-- as many rows more as are put behind
pub rows_of_count : (w m n : ℕ) (xs ys : Row) (rows : List Row) → rows_of w m xs ≡ rows_of w n ys ++ rows → m ≡ n + length rows
rows_of_count w m n xs ys rows e =
    let a = ap length e in
    let b = length-append (rows_of w n ys) rows in
    let c = length_rows_of w m xs in let d = length_rows_of w n ys in omega arith

-- what lies between two rows
pub between_take : {X : Type 0} (i j n : ℕ) (xs : List X) → j ≤ n → between i j (take n xs) ≡ between i j xs
between_take i j n xs h = between_is (take n xs) i j ∙ ap (drop i) (take-take j n xs h) ∙ sym (between_is xs i j)

pub take_flatten : (w n : ℕ) (rows : List Row) → Wide w rows → take (w * n) (flatten rows) ≡ flatten (take n rows)
unfolding flatten
take_flatten w zero rows h = rw mul-zero
take_flatten w (suc n) [] h = take-nil (w * suc n)
take_flatten w (suc n) (r ∷ rs) h =
    let m = mul-suc w n in
    let e : w * suc n ≡ w + w * n = omega arith in
    let t = take_at r (flatten rs) w h.0 in
    let d = drop_at r (flatten rs) w h.0 in
    rw (e, take-add w (w * n) (r ++ flatten rs), t, d) (ap (λ z. r ++ z) (take_flatten w n rs h.1))

pub drop_flatten : (w n : ℕ) (rows : List Row) → Wide w rows → drop (w * n) (flatten rows) ≡ flatten (drop n rows)
unfolding flatten
drop_flatten w zero rows h = rw mul-zero
drop_flatten w (suc n) [] h = drop-nil (w * suc n)
drop_flatten w (suc n) (r ∷ rs) h =
    let m = mul-suc w n in
    let e : w * suc n ≡ w + w * n = omega arith in
    let d = drop_at r (flatten rs) w h.0 in
    rw (e, ← drop-drop (w * n) w (r ++ flatten rs), d) (drop_flatten w n rs h.1)

pub between_flatten : (w i j : ℕ) (rows : List Row) → Wide w rows → between (w * i) (w * j) (flatten rows) ≡ flatten (between i j rows)
between_flatten w i j rows h =
    ap (take (w * j - w * i)) (drop_flatten w i rows h)
    ∙ ap (λ n. take n (flatten (drop i rows))) (sym (mul-sub w j i))
    ∙ take_flatten w (j - i) (drop i rows) (All-drop (λ r. length r ≡ w) i rows h)
