-- The filter of three axes on the declared record, as `new`, `window`, `select` and `push` leave it.
use Rattle.std.specs.Prelude.{ℕ, ◌+◌, ◌-◌, ◌*◌, ◌%◌, ◌^◌, min, Bool, not, List, ltb, get_or, set, replicate, ℤ, pos, if◌then◌else◌}
use Rattle.filter.specs.declared.Ring.{Ring}
use Rattle.filter.specs.declared.Filter.{Filter}
use Rattle.filter.specs.Mean.{ring, mean}

-- the shift of a bandwidth code: 6 - b, 7 as 6 (01), and so every greater number
abbrev pub shift_of : (bandwidth : ℕ) → ℕ
shift_of bandwidth = 6 - min bandwidth 6

-- the window, 2 ^ (6 - b) (01): 2 ^ shift; a shift above 6 counts as 6
abbrev pub window_of : (shift : ℕ) → ℕ
window_of shift = 2 ^ min shift 6

abbrev pub window : Filter → ℕ
window f = window_of f.shift

-- the ring of an axis that holds no code
abbrev pub empty : Ring
empty = record { next = 0; count = 0 }

-- a new filter: three histories of 64 zeros, no code counted (01)
abbrev pub made : (bandwidth : ℕ) → Filter
made bandwidth = record {
  history = replicate 192 (pos 0);
  rings = replicate 3 empty;
  shift = shift_of bandwidth;
}

-- another bandwidth, which keeps the histories (01)
abbrev pub selected : Filter → (bandwidth : ℕ) → Filter
selected f bandwidth = record f { shift = shift_of bandwidth }

-- the ring of an axis, which counts modulo 3
abbrev pub ring_of : Filter → (axis : ℕ) → Ring
ring_of f axis = get_or f.rings (axis % 3) empty

-- a ring with one code more: the place after it is next, and at most 64 are counted (the Rust's rule)
abbrev pub grown : Ring → Ring
grown r = record { next = (r.next % 64 + 1) % 64; count = min (r.count + 1) 64 }

-- the place in an axis's ring of 64 that is written next, modulo 64
abbrev pub place : Filter → (axis : ℕ) → ℕ
place f axis = (ring_of f axis).next % 64

-- how many codes an axis holds with one more
abbrev pub count_with : Filter → (axis : ℕ) → ℕ
count_with f axis = (grown (ring_of f axis)).count

-- the filter after a code is pushed on an axis (the Rust's `push`): written at the next place, which moves on, and counted
unfoldable pub pushed : Filter → (axis : ℕ) (code : ℤ) → Filter
pushed f axis code = record {
  history = set f.history (axis % 3 * 64 + place f axis) code;
  rings = set f.rings (axis % 3) (grown (ring_of f axis));
  shift = f.shift;
}

-- the last 64 codes of an axis, newest first: the newest stands one place before the next
abbrev pub last_codes : Filter → (axis : ℕ) → List ℤ
last_codes f axis = ring f.history (axis % 3 * 64) ((place f axis + 63) % 64)

-- whether the window of an axis is full with one more code: then the answer is the mean
unfoldable pub full : Filter → (axis : ℕ) → Bool
full f axis = not (ltb (count_with f axis) (window f))

-- the answer to a pushed code: itself while its axis holds fewer codes than the window, itself included, and else the mean (01)
unfoldable pub answered : Filter → (axis : ℕ) (code : ℤ) → ℤ
answered f axis code =
    if ltb (count_with f axis) (window f) then code
    else mean (window f) (last_codes (pushed f axis code) axis)
