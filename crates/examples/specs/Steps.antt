-- What the steps of an example begin with, and what is done to a sheet.
use Rattle.std.specs.Prelude.{ℕ, zero, suc, pos, negsuc, length, set, take, drop, replicate}
use mathlib.Core.List.{List, [], ◌∷◌, foldl}
use Rattle.std.proofs.lemmas.List.Edits.{sets}
use Rattle.dstree.specs.Measures.{Trace, measures}
use Rattle.dstree.specs.Labels.{no_label}
use Rattle.dstree.specs.Book.{opening, adding, matching, reading}
use Rattle.tables.specs.Tables.{Tables, labelled_tables}
use Rattle.calls.specs.Effects.{outcome_on}

-- "n = 1, capacity 8, leaf size 2, trace (−1)"
abbrev pub starred_trace : Trace
starred_trace = negsuc 0 ∷ []

-- .. in these tables, whatever they hold
unfoldable pub starred_in : Tables → Tables
starred_in t = (outcome_on (adding starred_trace no_label) (outcome_on (opening (measures 1 8 2)) t).after).after

-- a trail before a match
abbrev pub trail_junk : List ℕ
trail_junk = 7 ∷ 7 ∷ 7 ∷ []

-- 0, 1 and 9, n = 1
abbrev pub nine_traces : List Trace
nine_traces = (pos 0 ∷ []) ∷ (pos 1 ∷ []) ∷ (pos 9 ∷ []) ∷ []

-- "(1,2,1,2) and (2,1,2,1): one leaf of two"
abbrev pub twin_traces : List Trace
twin_traces = (pos 1 ∷ pos 2 ∷ pos 1 ∷ pos 2 ∷ []) ∷ (pos 2 ∷ pos 1 ∷ pos 2 ∷ pos 1 ∷ []) ∷ []

-- tables with junk in every place, for the starred example of a sheet
unfoldable pub junk : Tables
junk = labelled_tables (replicate 5 7) (replicate 8 (pos 7)) (replicate 1305 (pos 7)) (replicate 8 7) (replicate 15 7) (replicate 8 7)

-- a sheet of two blocks as it is, with a sample changed, and its block 0 alone
unfoldable pub damaged : List ℕ → List ℕ → List ℕ
damaged sheet sheets = set (sets (sets (sets sheets 0 sheet) 1024 sheet) 2048 (take 512 sheet)) 1540 254

-- every n of a list, the last ones even if they are fewer, in so many parts at most
unfoldable pub parts_by : {A : Type 0} → ℕ → ℕ → List A → List (List A)
parts_by zero n l = []
parts_by (suc most) n [] = []
parts_by (suc most) n (x ∷ l) = take n (x ∷ l) ∷ parts_by most n (drop n (x ∷ l))

abbrev pub parts : {A : Type 0} → ℕ → List A → List (List A)
parts n l = parts_by (length l) n l

-- what addings leave, what matches leave, and what sheets leave that are read, each with a match of the trace behind it
abbrev pub added_each : Tables → List Trace → Tables
added_each t traces = foldl (λ (u : Tables) (x : Trace). (outcome_on (adding x no_label) u).after) t traces

abbrev pub matched_each : Tables → List Trace → Tables
matched_each t queries = foldl (λ (u : Tables) (query : Trace). (outcome_on (matching query trail_junk) u).after) t queries

abbrev pub read_matched : Tables → List ℕ → Tables
read_matched t sheet = matched_each (outcome_on (reading sheet) t).after (parts 1 starred_trace)

abbrev pub read_each : Tables → List (List ℕ) → Tables
read_each t sheets = foldl read_matched t sheets
