mod Gained
