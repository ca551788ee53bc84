-- Words with a zero byte after each are read as these words.
use Rattle.std.proofs.Common.{◌≡◌, ◌≢◌, ℕ, List, [], ◌∷◌, ◌++◌, All, Some, None, sym, ap, ◌∙◌, append_assoc, if◌then◌else◌}
use Rattle.std.specs.Option.{option_and_then}
use Rattle.std.proofs.lemmas.Bool.{ne_eqb}
use Rattle.std.proofs.lemmas.List.{append-nil}
use Rattle.std.proofs.lemmas.List.Elements.{All-head, All-tail}
use Rattle.rtdvs_c.specs.WordList.{with_word, words_from, words_of, zero_ended, IsWord}

-- a word without a zero byte is read up to the zero byte after it
word-ends : (done : List (List ℕ)) (begun word rest : List ℕ) → All (λ b. b ≢ 0) word
    → words_from done begun (word ++ 0 ∷ rest) ≡ option_and_then (λ more. words_from more [] rest) (with_word done (begun ++ word))
word-ends done begun [] rest h = ap (λ w. option_and_then (λ more. words_from more [] rest) (with_word done w)) (sym (append-nil begun))
word-ends done begun (b ∷ word) rest h =
    ap (λ t. if t then option_and_then (λ more. words_from more [] (word ++ 0 ∷ rest)) (with_word done begun)
    else words_from done (begun ++ b ∷ []) (word ++ 0 ∷ rest))
    (ne_eqb b 0 (All-head (λ b. b ≢ 0) b word h))
    ∙ (word-ends done (begun ++ b ∷ []) word rest (All-tail (λ b. b ≢ 0) b word h)
    ∙ ap (λ w. option_and_then (λ more. words_from more [] rest) (with_word done w)) (append_assoc begun (b ∷ []) word))

-- the words after these, each with a zero byte after it
words-after : (done words : List (List ℕ)) → All IsWord words → words_from done [] (zero_ended words) ≡ Some (done ++ words)
words-after done [] h = ap Some (sym (append-nil done))
words-after done (word ∷ words) h =
    let here : IsWord word = All-head IsWord word words h in
    word-ends done [] word (zero_ended words) here.no_zero
    ∙ (ap (λ t. option_and_then (λ more. words_from more [] (zero_ended words)) (if t then Some (done ++ word ∷ []) else None)) here.text
    ∙ (words-after (done ++ word ∷ []) words (All-tail IsWord word words h) ∙ ap Some (append_assoc done (word ∷ []) words)))

-- so a caller that ends each word with a zero byte is answered for exactly these words
pub reads_ended : (bytes : List ℕ) (words : List (List ℕ)) → All IsWord words → bytes ≡ zero_ended words → words_of bytes ≡ Some words
reads_ended bytes words are ended = ap (λ b. words_from [] [] b) ended ∙ words-after [] words are
