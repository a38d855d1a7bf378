-- What the C function for a share hands over.
use Rattle.sheets.specs.Results.{told_line}
use Rattle.call_shares.specs.Share.{ShareResult, share_told, share_sentence}
use Rattle.call_shares.specs.Share.{share_number, share_quotient, share_remainder}
use Rattle.std.specs.Prelude.{◌≡◌, List, ℕ}
use Rattle.c_words.specs.Codes.{packed}
use Rattle.c_words.specs.Words.{AtFront, sentence_words, share_words}
use Rattle.call_shares.specs.Share.{ShareOf}

-- `teplonga_share` hands over what `share` answers, the three numbers and the answer's sentence in
-- words
pub record ShareWord (rules : List ℕ) (n p i : ℕ)
    (words words' numbers numbers' found found' : List ℕ) (r : ℕ) : Type 0 where
  pub reply : ShareResult
  pub promise : ShareOf rules n p i words words' reply
  pub values : AtFront 3 (share_words (share_number reply) (share_quotient reply)
      (share_remainder reply)) numbers
      numbers'
  pub sentence : AtFront 22 (sentence_words (share_sentence reply)) found found'
  pub word : r ≡ packed (share_told reply) (told_line reply)
