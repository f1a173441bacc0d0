mod ReadAcrosses
