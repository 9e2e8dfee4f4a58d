-- Laws of parts and numbers.
use Rattle.std.proofs.Common.{◌≡◌, ℕ, zero, suc, ◌+◌, ◌^◌, ◌≤◌, ◌<◌, List, ◌++◌, length, get_or, slice_index, take, drop, refl, ap, ◌∙◌, arith, add-zero, length-append, length-drop, append_assoc}
use Rattle.std.proofs.lemmas.List.{length-take-le, get_or-take, get_or-drop, drop-drop, get_or-append-add, take_all, drop_all, append-nil}
use Rattle.byteorder.specs.Endian.{little_from, little_number}
use Rattle.byteorder.specs.Numbers.{length-bytes_low_first, little_number-reads_back, little_from-lt}
use Rattle.byte_fields.specs.Places.{bytes_at, overwrite, number_at, bytes_of}

-- numbers whose bytes are the same are the same
pub same_numbers : (n i j : ℕ) (xs ys : List ℕ) → ((k : ℕ) → k < n → get_or xs (i + k) 0 ≡ get_or ys (j + k) 0) → little_from i n xs ≡ little_from j n ys
same_numbers zero i j xs ys same = refl
same_numbers (suc n) i j xs ys same =
    let byte : get_or xs i 0 ≡ get_or ys j 0 = simp add-zero at (same 0 (omega arith)) in
    let next : (k : ℕ) → k < n → get_or xs (suc i + k) 0 ≡ get_or ys (suc j + k) 0
    = λ k below. let e : suc i + k ≡ i + (k + 1) = omega arith in let f : suc j + k ≡ j + (k + 1) = omega arith in rw (e, f) (same (k + 1) (omega arith)) in
    let rest : little_from (suc i) n xs ≡ little_from (suc j) n ys = same_numbers n (suc i) (suc j) xs ys next in
    rw (byte, rest) refl

-- a number that is read from a part of the bytes
pub number_in_part : (n addr count offset : ℕ) (bytes : List ℕ) → offset + n ≤ count → number_at n offset (bytes_at addr count bytes) ≡ number_at n (addr + offset) bytes
unfolding number_at
number_in_part n addr count offset bytes fits =
    same_numbers n offset (addr + offset) (bytes_at addr count bytes) bytes
    (λ k below. let e : addr + offset + k ≡ addr + (offset + k) = omega arith in
    rw e (get_or-take count (drop addr bytes) (offset + k) 0 (omega arith) ∙ get_or-drop addr bytes (offset + k) 0))

pub number_read : (n addr count : ℕ) (bytes : List ℕ) → n ≤ count → little_number n (bytes_at addr count bytes) ≡ number_at n addr bytes
unfolding number_at
number_read n addr count bytes fits = number_in_part n addr count 0 bytes (omega arith) ∙ ap (λ (a : ℕ). little_from a n bytes) (add-zero addr)

-- bytes below 256 make a number of n bytes
pub number_at-lt : (n addr : ℕ) (bytes : List ℕ) → ((k : ℕ) → slice_index bytes k < 256) → number_at n addr bytes < 256 ^ n
unfolding number_at
number_at-lt n addr bytes small = little_from-lt addr n bytes small

-- a number's bytes are read as the number
pub number_at-bytes_of : (n x : ℕ) (rest : List ℕ) → x < 256 ^ n → number_at n 0 (bytes_of n x ++ rest) ≡ x
unfolding number_at bytes_of
number_at-bytes_of n x rest small = little_number-reads_back n x rest small

-- bytes in front move the places on
pub number_at-append : (n i j : ℕ) (front rest : List ℕ) → j ≡ length front + i → number_at n j (front ++ rest) ≡ number_at n i rest
unfolding number_at
number_at-append n i j front rest at =
    same_numbers n j i (front ++ rest) rest
    (λ k below. let e : j + k ≡ length front + (i + k) = omega arith in rw e (get_or-append-add front rest (i + k) 0))

pub length-bytes_at : (addr count : ℕ) (bytes : List ℕ) → addr + count ≤ length bytes → length (bytes_at addr count bytes) ≡ count
length-bytes_at addr count bytes fits =
    let rest : count ≤ length (drop addr bytes) = simp length-drop (omega arith) in
    length-take-le count (drop addr bytes) rest

pub length-overwrite : (addr : ℕ) (others bytes : List ℕ) → addr + length others ≤ length bytes → length (overwrite addr others bytes) ≡ length bytes
unfolding overwrite
length-overwrite addr others bytes fits =
    simp (length-append, length-drop) (let front : length (take addr bytes) ≡ addr = length-take-le addr bytes (omega arith) in omega arith)

pub length-bytes_of : (n x : ℕ) → length (bytes_of n x) ≡ n
unfolding bytes_of
length-bytes_of n x = length-bytes_low_first 0 n x

-- the bytes of a slice after a write to a part of it
pub part_written : (addr : ℕ) (others bytes : List ℕ) → take addr bytes ++ (others ++ drop (length others) (drop addr bytes)) ≡ overwrite addr others bytes
unfolding overwrite
part_written addr others bytes = simp (drop-drop, append_assoc)

whole : (xs w : List ℕ) (len : ℕ) → len ≡ length xs → length w ≡ length xs → take len (w ++ drop (length w) xs) ≡ w
whole xs w len e f = rw (drop_all (length w) xs (omega arith), append-nil) (take_all len w (omega arith))

-- the items of a vector after a write to a part of it
pub vec_written : (xs others : List ℕ) (len addr count : ℕ) → len ≡ length xs → count ≡ length others → addr + length others ≤ length xs
    → take len (take addr xs ++ (others ++ drop count (drop addr xs)) ++ drop (length (take addr xs ++ (others ++ drop count (drop addr xs)))) xs) ≡ overwrite addr others xs
vec_written xs others len addr count e f fits =
    let is : take addr xs ++ (others ++ drop count (drop addr xs)) ≡ overwrite addr others xs = rw f (part_written addr others xs) in
    let size : length (overwrite addr others xs) ≡ length xs = length-overwrite addr others xs fits in
    rw is (whole xs (overwrite addr others xs) len e size)
