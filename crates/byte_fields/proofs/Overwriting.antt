-- What stands in a list of bytes after a part of it was overwritten.
use Rattle.std.proofs.Common.{◌≡◌, ℕ, ◌+◌, ◌-◌, ◌^◌, ◌≤◌, ◌<◌, List, [], ◌++◌, length, get_or, take, drop, refl, sym, ap, ◌∙◌, arith, length-append}
use Rattle.std.proofs.lemmas.List.{length-take-le, get_or-take, get_or-drop, get_or_append_left, get_or-append_right, append-nil, take-append-drop, take_all, ext_get_or}
use Rattle.byte_fields.specs.Places.{bytes_at, overwrite, number_at, bytes_of}
use Rattle.byte_fields.proofs.Places.{same_numbers, number_at-bytes_of, length-bytes_of, length-bytes_at, length-overwrite}

-- no byte put changes nothing
pub overwrite-nothing : (addr : ℕ) (bytes : List ℕ) → overwrite addr [] bytes ≡ bytes
unfolding overwrite
overwrite-nothing addr bytes = let e : addr + length {A = ℕ} [] ≡ addr = omega arith in rw (e, append-nil) (take-append-drop addr bytes)

-- a byte before those that were put, one of them, and one behind them
pub get_or-overwrite_before : (addr k : ℕ) (others bytes : List ℕ) → addr ≤ length bytes → k < addr → get_or (overwrite addr others bytes) k 0 ≡ get_or bytes k 0
unfolding overwrite
get_or-overwrite_before addr k others bytes fits before =
    let front : length (take addr bytes) ≡ addr = length-take-le addr bytes fits in
    get_or_append_left (take addr bytes ++ others) (drop (addr + length others) bytes) 0 k (simp length-append (omega arith))
    ∙ get_or_append_left (take addr bytes) others 0 k (omega arith)
    ∙ get_or-take addr bytes k 0 before

pub get_or-overwrite_at : (addr i k : ℕ) (others bytes : List ℕ) → addr ≤ length bytes → k ≡ addr + i → i < length others → get_or (overwrite addr others bytes) k 0 ≡ get_or others i 0
unfolding overwrite
get_or-overwrite_at addr i k others bytes fits at below =
    let front : length (take addr bytes) ≡ addr = length-take-le addr bytes fits in
    let e : k - addr ≡ i = omega arith in
    get_or_append_left (take addr bytes ++ others) (drop (addr + length others) bytes) 0 k (simp length-append (omega arith))
    ∙ get_or-append_right (take addr bytes) others addr k 0 front (omega arith)
    ∙ ap (λ j. get_or others j 0) e

pub get_or-overwrite_after : (addr k : ℕ) (others bytes : List ℕ) → addr ≤ length bytes → addr + length others ≤ k → get_or (overwrite addr others bytes) k 0 ≡ get_or bytes k 0
unfolding overwrite
get_or-overwrite_after addr k others bytes fits after =
    let front : length (take addr bytes) ≡ addr = length-take-le addr bytes fits in
    let both : length (take addr bytes ++ others) ≡ addr + length others = simp length-append (omega arith) in
    let e : addr + length others + (k - (addr + length others)) ≡ k = omega arith in
    get_or-append_right (take addr bytes ++ others) (drop (addr + length others) bytes) (addr + length others) k 0 both after
    ∙ get_or-drop (addr + length others) bytes (k - (addr + length others)) 0
    ∙ ap (λ j. get_or bytes j 0) e

-- a number before the bytes that were put, within them, and behind them
pub number_at-overwrite_before : (n addr at : ℕ) (others bytes : List ℕ) → at ≤ length bytes → addr + n ≤ at → number_at n addr (overwrite at others bytes) ≡ number_at n addr bytes
unfolding number_at
number_at-overwrite_before n addr at others bytes fits before =
    same_numbers n addr addr (overwrite at others bytes) bytes (λ k below. get_or-overwrite_before at (addr + k) others bytes fits (omega arith))

pub number_at-overwrite_within : (n addr at offset : ℕ) (others bytes : List ℕ) → at ≤ length bytes → addr ≡ at + offset → offset + n ≤ length others
    → number_at n addr (overwrite at others bytes) ≡ number_at n offset others
unfolding number_at
number_at-overwrite_within n addr at offset others bytes fits e within =
    same_numbers n addr offset (overwrite at others bytes) others (λ k below. get_or-overwrite_at at (offset + k) (addr + k) others bytes fits (omega arith) (omega arith))

pub number_at-overwrite_after : (n addr at : ℕ) (others bytes : List ℕ) → at ≤ length bytes → at + length others ≤ addr → number_at n addr (overwrite at others bytes) ≡ number_at n addr bytes
unfolding number_at
number_at-overwrite_after n addr at others bytes fits after =
    same_numbers n addr addr (overwrite at others bytes) bytes (λ k below. get_or-overwrite_after at (addr + k) others bytes fits (omega arith))

-- a number that was put is read again
pub number_at-overwrite_same : (n addr x : ℕ) (bytes : List ℕ) → addr ≤ length bytes → x < 256 ^ n → number_at n addr (overwrite addr (bytes_of n x) bytes) ≡ x
number_at-overwrite_same n addr x bytes fits small =
    number_at-overwrite_within n addr addr 0 (bytes_of n x) bytes fits (omega arith) (let size = length-bytes_of n x in omega arith)
    ∙ ap (number_at n 0) (sym (append-nil (bytes_of n x)))
    ∙ number_at-bytes_of n x [] small

-- parts whose bytes are the same are the same
same_parts : (i j count : ℕ) (xs ys : List ℕ) → i + count ≤ length xs → j + count ≤ length ys → ((k : ℕ) → k < count → get_or xs (i + k) 0 ≡ get_or ys (j + k) 0) → bytes_at i count xs ≡ bytes_at j count ys
same_parts i j count xs ys here there same =
    let size : length (bytes_at i count xs) ≡ count = length-bytes_at i count xs here in
    ext_get_or 0 (bytes_at i count xs) (bytes_at j count ys) (size ∙ sym (length-bytes_at j count ys there))
    (λ k below. let few : k < count = omega arith in
    get_or-take count (drop i xs) k 0 few ∙ get_or-drop i xs k 0 ∙ same k few ∙ sym (get_or-take count (drop j ys) k 0 few ∙ get_or-drop j ys k 0))

-- a part before the bytes that were put, that part, and one behind them
pub bytes_at-overwrite_before : (addr count at : ℕ) (others bytes : List ℕ) → at + length others ≤ length bytes → addr + count ≤ at → bytes_at addr count (overwrite at others bytes) ≡ bytes_at addr count bytes
bytes_at-overwrite_before addr count at others bytes fits before =
    same_parts addr addr count (overwrite at others bytes) bytes (let size = length-overwrite at others bytes fits in omega arith) (omega arith)
    (λ k below. get_or-overwrite_before at (addr + k) others bytes (omega arith) (omega arith))

pub bytes_at-overwrite_after : (addr count at : ℕ) (others bytes : List ℕ) → at + length others ≤ addr → addr + count ≤ length bytes → bytes_at addr count (overwrite at others bytes) ≡ bytes_at addr count bytes
bytes_at-overwrite_after addr count at others bytes after fits =
    same_parts addr addr count (overwrite at others bytes) bytes (let size = length-overwrite at others bytes (omega arith) in omega arith) fits
    (λ k below. get_or-overwrite_after at (addr + k) others bytes (omega arith) (omega arith))

pub bytes_at-overwrite_same : (addr : ℕ) (others bytes : List ℕ) → addr + length others ≤ length bytes → bytes_at addr (length others) (overwrite addr others bytes) ≡ others
bytes_at-overwrite_same addr others bytes fits =
    same_parts addr 0 (length others) (overwrite addr others bytes) others (let size = length-overwrite addr others bytes fits in omega arith) (omega arith)
    (λ k below. let e : 0 + k ≡ k = omega arith in rw e (get_or-overwrite_at addr k (addr + k) others bytes (omega arith) refl below))
    ∙ take_all (length others) others (omega arith)
