-- Land classes by their numbers: the land codes of table C.1, as document 01 'Verdict' reads it, and the limits of table 1.
use Rattle.std.specs.Prelude.{ℕ, ◌+◌, Bool, cond, ◌&&◌, List, [], ◌∷◌, eqb, leb}
use Rattle.std.proofs.Math.Option.{Option, some, none}

-- 'Verdict': the four land classes
abbrev pub I : ℕ
I = 1

abbrev pub II : ℕ
II = 2

abbrev pub III : ℕ
III = 3

abbrev pub IV : ℕ
IV = 4

-- 'Verdict', land codes: the letters and the digit 0 as ASCII bytes
abbrev pub A : ℕ
A = 65

abbrev pub B : ℕ
B = 66

abbrev pub G : ℕ
G = 71

abbrev pub M : ℕ
M = 77

abbrev pub R : ℕ
R = 82

abbrev pub S : ℕ
S = 83

abbrev pub U : ℕ
U = 85

abbrev pub W : ℕ
W = 87

abbrev pub digit_zero : ℕ
digit_zero = 48

-- a row of table C.1: a letter, the first and the last of its digits, and their class
pub record Row : Type 0 where
  pub letter : ℕ
  pub first : ℕ
  pub last : ℕ
  pub class : ℕ

-- a row by its four numbers
abbrev pub row : ℕ → ℕ → ℕ → ℕ → Row
row letter first last class = record { letter = letter; first = first; last = last; class = class }

-- 'Verdict', land codes (table C.1)
abbrev pub table_c1 : List Row
table_c1 =
    row R 0 9 I
    ∷ row A 1 2 II
    ∷ row A 3 3 I
    ∷ row A 4 4 III
    ∷ row A 5 6 I
    ∷ row A 7 7 III
    ∷ row A 8 9 I
    ∷ row B 1 2 II
    ∷ row B 3 4 III
    ∷ row B 9 9 II
    ∷ row M 0 9 III
    ∷ row W 0 9 III
    ∷ row S 0 9 IV
    ∷ row U 0 9 IV
    ∷ row G 1 1 III
    ∷ row G 2 2 IV
    ∷ row G 3 3 III
    ∷ []

-- a row has a code: its letter, and a digit from its first to its last
abbrev pub has : Row → ℕ → ℕ → Bool
has r letter digit = eqb letter r.letter && (leb (digit_zero + r.first) digit && leb digit (digit_zero + r.last))

-- the class of the first row that has the code, and 0, the number of no class, where none has it
abbrev pub class_in : List Row → ℕ → ℕ → ℕ
class_in [] letter digit = 0
class_in (r ∷ rs) letter digit = cond (has r letter digit) r.class (class_in rs letter digit)

-- 'Verdict', land codes: the class of a code, 0 where the code is unknown
unfoldable pub class_of : ℕ → ℕ → ℕ
class_of letter digit = class_in table_c1 letter digit

-- 'Verdict' (table 1): the limit of a class, none for class IV
abbrev pub limit_of : ℕ → Option ℕ
limit_of class =
    cond (eqb class I) (some 5700)
    (cond (eqb class II) (some 6200)
    (cond (eqb class III) (some 6700)
    none))
