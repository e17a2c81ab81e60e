-- The loop of `play`: after some rows the lent slices are in the state that these leave, the calls they made ran one after another, and
-- their replies are laid down.
use Prim.Native.Nat.{ℕ, suc, ◌+◌, ◌≤◌}
use mathlib.Core.Path.{◌≡◌, refl, sym, ap, subst, ◌∙◌}
use Rattle.std.specs.Prelude.{Option, None, Some}
use mathlib.Core.List.{List, [], ◌∷◌, ◌++◌, foldl}
use native.Mathlib.Omega.{arith}
use lib.IntN.{ℤ}
use lib.ListN.{length, take-append-drop, length-append}
use lib.Dec.{T}
use Rattle.dstree.specs.Sheet.{are_bytes}
use Rattle.dstree.specs.Book.{Lent, Call, call, Answer, Reply}
use Rattle.tables.specs.Tables.{Tables, lent_of}
use Rattle.tables.specs.Beginning.{LentWithin}
use Rattle.tables.proofs.Beginning.{first_lent}
use Rattle.calls.specs.Follows.{Follows, Ran, no_call, a_call}
use Rattle.calls.proofs.Demands.{demands}
use Rattle.replay.specs.Demanded.{Demanded}
use Rattle.replay.specs.declared.Amounts.{Amounts}
use Rattle.replay.specs.declared.Turn.{Turn}
use Rattle.replay.specs.ReplyRows.{reply_row, with_row, replies_laid}
use Rattle.replay.specs.Script.{RowAsk, ask_of, rows_of, lent_by, State, state_at, AmountsInside, amounts, asks, reply_in, state_after, Turned, turned}
use Rattle.replay.specs.Script.{turn_made, turn_of}
use Rattle.replay.specs.Script.{Played, begun, played_one, played_row, answers_of, played, whole, tells_row, next_row}
use Rattle.replay.proofs.ReadBack.{few_rows}
use Rattle.replay.proofs.Asking.{SoundState, asked_typed, asked_within, sound_after}

-- ---- one call more

ran_more : {memory between after : Tables} {calls : List Call} {said : List Reply} {c : Call} {r : Reply}
    → Ran memory calls said between → Follows c between r after → Ran memory (calls ++ (c ∷ [])) (said ++ (r ∷ [])) after
ran_more no_call f = a_call f no_call
ran_more (a_call g rest) f = a_call g (ran_more rest f)

laid_more : (answers : List Answer) (a : Answer) (k : ℕ) (l : List ℕ) → replies_laid (answers ++ (a ∷ [])) k l ≡ with_row (replies_laid
    answers k l) (k + length answers) (reply_row a)
unfolding replies_laid
laid_more [] a k l = let e : k ≡ k + 0 = omega arith in ap (λ (j : ℕ). with_row l j (reply_row a)) e
laid_more (b ∷ answers) a k l =
    let e : suc k + length answers ≡ k + suc (length answers) = omega arith in
    laid_more answers a (suc k) (with_row l k (reply_row b)) ∙ ap (λ (j : ℕ). with_row (replies_laid answers (suc k) (with_row l k (reply_row
    b))) j (reply_row a)) e

answers_more : (said : List Reply) (r : Reply) → answers_of (said ++ (r ∷ [])) ≡ answers_of said ++ (r.answer ∷ [])
answers_more [] r = refl
answers_more (s ∷ said) r = ap (λ (l : List Answer). s.answer ∷ l) (answers_more said r)

answers_length : (said : List Reply) → length (answers_of said) ≡ length said
answers_length [] = refl
answers_length (s ∷ said) = ap suc (answers_length said)

-- ---- a row more

-- what holds of the rows that were played
pub record RowsPlayed (t₀ : Tables) (replies₀ : List ℕ) (p : Played) (replies : List ℕ) (k : ℕ) : Type 0 where
  pub ran : Ran t₀ p.asked p.said p.now.memory
  pub sound : SoundState (lent_of t₀) p.now
  pub counted : k ≡ length p.said
  pub laid : replies ≡ replies_laid (answers_of p.said) 0 replies₀

module _ (t₀ : Tables) (replies₀ : List ℕ) where
  -- by whether the row asks for a call
  row_fine : (row : List ℕ) (p : Played) (replies : List ℕ) (k : ℕ) (told : Option (List ℕ)) (now' : State) (o : Option RowAsk)
      → RowsPlayed t₀ replies₀ p replies k → asks (lent_of t₀) row p.now ≡ o
      → turned told now' ≡ turn_made (lent_by row) o p.now
      → lent_of now'.memory ≡ lent_of t₀
      → (now' ≡ (played_one (lent_by row) o p).now) × RowsPlayed t₀ replies₀ (played_one (lent_by row) o p) (tells_row told k replies) (next_row told k)
  unfolding turn_made state_after played_one tells_row next_row
  row_fine row p replies k told now' None f a e l =
      let none : told ≡ None = ap (λ (t : Turned). t.numbers) e in
      (ap (λ (t : Turned). t.now) e, rw none f)
  row_fine row p replies k told now' (Some ask) f a e l =
      let c : Call = call (lent_by row) (ask_of ask) in
      let said = reply_in c p.now.memory in
      let row_told : told ≡ Some (reply_row said.answer) = ap (λ (t : Turned). t.numbers) e in
      let moved : now' ≡ state_after (lent_by row) ask p.now = ap (λ (t : Turned). t.now) e in
      let long : lent_of (state_after (lent_by row) ask p.now).memory ≡ lent_of t₀ = ap (λ (s : State). lent_of s.memory) (sym moved) ∙ l in
      let follows : Follows c p.now.memory said (state_after (lent_by row) ask p.now).memory = record {
        has_places = first_lent (lent_by row) p.now.memory
            (subst (λ (x : Lent). LentWithin (lent_by row) x) (sym f.sound.as_long) (asked_within (lent_of t₀) row p.now ask a));
        typed = asked_typed (lent_of t₀) row p.now f.sound ask a;
        follows = refl;
      } in
      let so_many : 0 + length (answers_of p.said) ≡ length p.said = omega (arith, answers_length p.said) in (
        moved,
        rw row_told (record {
          ran = ran_more f.ran follows;
          sound = sound_after (lent_of t₀) p.now f.sound (lent_by row) ask long;
          counted = omega (arith, f.counted, length-append p.said (said ∷ []));
          laid =
              rw (f.laid, f.counted, answers_more p.said said)
              (sym (laid_more (answers_of p.said) said.answer 0 replies₀
              ∙ ap (λ (j : ℕ). with_row (replies_laid (answers_of p.said) 0 replies₀) j (reply_row said.answer)) so_many));
        }),
      )

-- ---- the loop

module _ (t₀ : Tables) (script : List ℕ) (pool : List ℤ) (trails₀ sheets₀ replies₀ : List ℕ) where
  abbrev end : Played
  end = played t₀ script pool trails₀ sheets₀

  -- all rows but these are played, and k replies are laid down
  pub record Playing (t : Tables) (trails sheets replies : List ℕ) (at : Amounts) (rows : List (List ℕ)) (k : ℕ) : Type 0 where
    pub so_far : Played
    pub state_is : state_at t pool trails sheets at ≡ so_far.now
    pub fine : RowsPlayed t₀ replies₀ so_far replies k
    pub onward : foldl (played_row (lent_of t₀)) so_far rows ≡ end
    pub inside : AmountsInside at pool trails sheets
    pub few : k + length rows ≤ length script

  pub playing_first : T (are_bytes sheets₀) → Playing t₀ trails₀ sheets₀ replies₀ (amounts 0 0 0) (rows_of script) 0
  unfolding replies_laid
  playing_first b = record {
    so_far = begun t₀ pool trails₀ sheets₀;
    state_is = refl;
    fine = record { ran = no_call; sound = record { as_long = refl; of_bytes = b }; counted = refl; laid = refl };
    onward = refl;
    inside = record { samples_inside_lem = omega arith; trails_inside = omega arith; sheets_inside = omega arith };
    few = omega (arith, few_rows (length script) script);
  }

  few_more : (told : Option (List ℕ)) (k left most : ℕ) → k + suc left ≤ most → next_row told k + left ≤ most
  unfolding next_row
  few_more None k left most h = omega arith
  few_more (Some row) k left most h = omega arith

  -- a row that a turn has played
  pub playing_on : {t t' : Tables} {trails trails' sheets sheets' replies : List ℕ} {at : Amounts} {rows : List (List ℕ)} {k : ℕ} (r : Turn)
      (row : List ℕ) (rest : List (List ℕ))
      → Playing t trails sheets replies at rows k → lent_of t ≡ lent_of t₀ → lent_of t' ≡ lent_of t₀
      → rows ≡ row ∷ rest
      → turn_of r t' pool trails' sheets' ≡ turn_made (lent_by row) (asks (lent_of t) row (state_at t pool trails sheets at))
      (state_at t pool trails sheets at)
      → AmountsInside r.at pool trails sheets → length trails' ≡ length trails → length sheets' ≡ length sheets
      → (replies' : List ℕ) (k' : ℕ) → replies' ≡ tells_row r.numbers k replies → k' ≡ next_row r.numbers k → Playing t' trails' sheets' replies'
      r.at rest k'
  unfolding played_row
  playing_on {t} {t'} {trails} {trails'} {sheets} {sheets'} {replies} {at} {rows} {k} r row rest h l l' next e
      i m n replies' k' q u =
      let p = h.so_far in
      let asked : turn_of r t' pool trails' sheets' ≡ turn_made (lent_by row) (asks (lent_of t₀) row p.now) p.now =
      e
      ∙ (ap (λ (x : Lent). turn_made (lent_by row) (asks x row (state_at t pool trails sheets at))
      (state_at t pool trails sheets at)) l
      ∙ ap (λ (x : State). turn_made (lent_by row) (asks (lent_of t₀) row x) x) h.state_is) in
      let g = row_fine t₀ replies₀ row p replies k r.numbers (state_at t' pool trails' sheets' r.at) (asks (lent_of t₀) row p.now)
      h.fine refl asked l' in
      record {
        so_far = played_row (lent_of t₀) p row;
        state_is = g.0;
        fine = subst (λ (l : List ℕ). RowsPlayed t₀ replies₀ (played_row (lent_of t₀) p row) l k') (sym q)
            (subst (λ (j : ℕ). RowsPlayed t₀ replies₀ (played_row (lent_of t₀) p row) (tells_row r.numbers k replies) j) (sym u) g.1);
        onward = ap (λ (l : List (List ℕ)). foldl (played_row (lent_of t₀)) p l) (sym next) ∙ h.onward;
        inside = record {
          samples_inside_lem = i.samples_inside_lem;
          trails_inside = subst (λ (x : ℕ). r.at.trails ≤ x) (sym m) i.trails_inside;
          sheets_inside = subst (λ (x : ℕ). r.at.sheets ≤ x) (sym n) i.sheets_inside;
        };
        few = subst (λ (j : ℕ). j + length rest ≤ length script) (sym u)
            (few_more r.numbers k (length rest) (length script) (omega (arith, h.few, ap length next)));
      }

  -- when every row is played
  module _ {t : Tables} {trails sheets replies : List ℕ} {at : Amounts} {rows : List (List ℕ)} {k : ℕ}
      (h : Playing t trails sheets replies at rows k) (all : rows ≡ []) where
    at_end : h.so_far ≡ end
    at_end = ap (λ (l : List (List ℕ)). foldl (played_row (lent_of t₀)) h.so_far l) (sym all) ∙ h.onward

    state_then : state_at t pool trails sheets at ≡ end.now
    state_then = h.state_is ∙ ap (λ (p : Played). p.now) at_end

    pub memory_then : t ≡ end.now.memory
    memory_then = ap (λ (s : State). s.memory) state_then

    pub trails_then : trails ≡ whole end.now.trails
    trails_then = sym (take-append-drop at.trails trails) ∙ ap (λ (s : State). whole s.trails) state_then

    pub sheets_then : sheets ≡ whole end.now.sheets
    sheets_then = sym (take-append-drop at.sheets sheets) ∙ ap (λ (s : State). whole s.sheets) state_then

    pub replies_then : replies ≡ replies_laid (answers_of end.said) 0 replies₀
    replies_then = h.fine.laid ∙ ap (λ (p : Played). replies_laid (answers_of p.said) 0 replies₀) at_end

    pub ran_then : Ran t₀ end.asked end.said t
    ran_then =
        subst (λ (x : Tables). Ran t₀ end.asked end.said x) (sym memory_then)
        (subst (λ (p : Played). Ran t₀ p.asked p.said p.now.memory) at_end h.fine.ran)

pub same_lengths : (t s : Tables) → length t.control ≡ length s.control → length t.samples ≡ length s.samples
    → length t.nodes ≡ length s.nodes → length t.links ≡ length s.links → length t.work ≡ length s.work
    → length t.labels ≡ length s.labels → lent_of t ≡ lent_of s
same_lengths t s c p n l w b = rw (c, p, n, l, w, b)

-- ---- the demands

-- calls that ran are as document 01 demands, from the first that succeeded on
pub demanded : (calls : List Call) (said : List Reply) {memory memory' : Tables} → Ran memory calls said memory'
    → Demanded calls said memory'
unfolding Demanded
demanded [] said ran = tt
demanded (first ∷ calls) (said₀ ∷ said) {memory} {memory'} ran = λ e. demands.after_list first calls memory memory' said₀ said ran e
demanded (first ∷ calls) [] ran = elim ran [ ]
